use Rattle.std.proofs.Common.{◌∙◌, ap, sym, arith, length, get_or, take}
use Rattle.std.specs.FinMap.{contains_key}
use Rattle.ns_tree.proofs.Trees.{is_below_file-found, is_below_file-none, HasNoFileAbove-slash, HasNoFileAbove-other}
use Rattle.ns_tree.proofs.files.Files.is_below_file.Goals as goal
use Rattle.ns_tree.proofs.files.Files.is_below_file.Goals.{else-byte-eq47-via-then-byte-eq47+in_ok-is_file+else-branch, else-byte-eq47-via-else-byte-eq47}

pub returns-then-branch : goal.returns-then-branch
returns-then-branch c =
    let same = c.as_slice-text.ensures.bytes in
    let long = ap length same in
    sym (is_below_file-found c.args.self.now c.args.place.now c.loop-i.i (omega arith)
    (ap (λ text. get_or text c.loop-i.i 0) (sym same) ∙ c.if-byte-eq47.true)
    (ap (λ text. contains_key c.args.self.now (take c.loop-i.i text)) (sym same) ∙ sym c.in_ok-is_file.ensures ∙ c.if-branch.true))

pub loop-i-preserved : goal.loop-i-preserved
loop-i-preserved c =
    let same = c.as_slice-text.ensures.bytes in
    elim c.else-byte-eq47.branch [
      | else-byte-eq47-via-then-byte-eq47+in_ok-is_file+else-branch w ↦
          HasNoFileAbove-slash c.args.self.now c.args.place.now c.loop-i.i c.loop-i.invariant
          (ap (λ text. contains_key c.args.self.now (take c.loop-i.i text)) (sym same) ∙ sym w.in_ok-is_file.ensures ∙ w.if-branch.false)
      | else-byte-eq47-via-else-byte-eq47 w ↦
          HasNoFileAbove-other c.args.self.now c.args.place.now c.loop-i.i c.loop-i.invariant (λ slash. w.if-byte-eq47.false (ap (λ text. get_or text c.loop-i.i 0) same ∙ slash))
    ]

pub returns : goal.returns
returns c =
    let long = ap length c.as_slice-text.ensures.bytes in
    sym (is_below_file-none c.args.self.now c.args.place.now c.loop-i.i (omega arith) c.loop-i.invariant)
