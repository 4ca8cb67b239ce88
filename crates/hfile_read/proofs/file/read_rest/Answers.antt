use Rattle.std.proofs.Common.{◌≡◌, ◌+◌, List, ℕ, length, drop, Ok, ap, subst, arith}
use Rattle.std.proofs.lemmas.List.{length-take, length-drop}
use Rattle.std.proofs.lemmas.Result.{err_from_is_err_and}
use Rattle.hb_cell.specs.declared.cell.Cell.{Cell}
use Rattle.hfile_form.specs.declared.section.Section.TheVariants as sections
use Rattle.hfile_form.specs.declared.front.DataBlock.{DataBlock}
use Rattle.hfile_form.specs.Blocks.{blocks_at}
use Rattle.hfile_form.specs.Front.{no_front, taken}
use Rattle.hfile_form.specs.File.{passed, in_index, index_of}
use Rattle.hfile_read.specs.Answers.{Fails}
use Rattle.hfile_read.specs.Views.{front_view, nodes_view, opened_view}
use Rattle.hfile_read.proofs.Files.{wrong_others, wrong_index}
use Rattle.hfile_read.proofs.file.read_rest.Goals as goal

pub returns-in_err-pass_blocks : goal.returns-in_err-pass_blocks
returns-in_err-pass_blocks c =
    let p = err_from_is_err_and c.from_residual-in_err-pass_blocks.result c.from_residual-in_err-pass_blocks.ensures.1 in
    let t = c.args.trailer.now in
    let body = c.args.body.now in
    let front = front_view c.in_ok-front.front in
    let e = c.in_err-pass_blocks.field-0.0 in
    let at = t.info_at + c.size.result in
    let read = subst (λ (bs : List ℕ). blocks_at (taken c.args.with_seq) sections.Front (length body) 0 bs no_front ≡ Ok front) c.before_place.ensures (c.in_ok-front.ensures (length body) (omega (arith, ap length c.before_place.ensures, length-take t.load_at body))) in
    let wrong = c.in_err-pass_blocks.ensures (length body) (omega (arith, ap length c.from_place.ensures, length-drop at body)) in
    let there = subst (λ (k : ℕ). Fails e (blocks_at passed sections.Others (length body) k (drop k body) tt)) (ap (λ (k : ℕ). t.info_at + k) c.size.ensures) (subst (λ (bs : List ℕ). Fails e (blocks_at passed sections.Others (length body) at bs tt)) c.from_place.ensures wrong) in
    rw (p.1, p.2) (wrong_others t (opened_view c.args.opened) c.args.with_seq body front e read there)

pub returns-in_err-check_index : goal.returns-in_err-check_index
returns-in_err-check_index c =
    let p = err_from_is_err_and c.from_residual-in_err-check_index.result c.from_residual-in_err-check_index.ensures.1 in
    let t = c.args.trailer.now in
    let o = opened_view c.args.opened in
    let body = c.args.body.now in
    let front = front_view c.in_ok-front.front in
    let nodes = nodes_view c.in_ok-front.front.nodes in
    let e = c.in_err-check_index.field-0.0 in
    let at = t.info_at + c.size.result in
    let read = subst (λ (bs : List ℕ). blocks_at (taken c.args.with_seq) sections.Front (length body) 0 bs no_front ≡ Ok front) c.before_place.ensures (c.in_ok-front.ensures (length body) (omega (arith, ap length c.before_place.ensures, length-take t.load_at body))) in
    let passes = c.in_ok-pass_blocks.ensures (length body) (omega (arith, ap length c.from_place.ensures, length-drop at body)) in
    let there = subst (λ (k : ℕ). blocks_at passed sections.Others (length body) k (drop k body) tt ≡ Ok tt) (ap (λ (k : ℕ). t.info_at + k) c.size.ensures) (subst (λ (bs : List ℕ). blocks_at passed sections.Others (length body) at bs tt ≡ Ok tt) c.from_place.ensures passes) in
    let datas = subst (λ (ds : List DataBlock). Fails e (in_index (index_of t o.root (record { cells = c.deref-2.result.now; datas = ds; nodes = nodes })))) c.deref.ensures.value c.in_err-check_index.ensures in
    let wrong = subst (λ (cs : List Cell). Fails e (in_index (index_of t o.root (record { cells = cs; datas = c.in_ok-front.front.datas.items; nodes = nodes })))) c.deref-2.ensures.value datas in
    rw (p.1, p.2) (wrong_index t o c.args.with_seq body front e read there wrong)
