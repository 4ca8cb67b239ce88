use Rattle.std.proofs.Common.{ℕ, List, length, drop, sym, subst, arith, ◌+◌, ◌-◌}
use Rattle.std.proofs.lemmas.List.{length-drop, take_all}
use Rattle.hb_grammar.specs.Marked.{Marked}
use Rattle.shell_text.specs.Text.{IsText}
use Rattle.shell_text.specs.TextEnd.{HasFront}
use Rattle.shell_text.proofs.TextEndLemmas.{HasFront-text}
use Rattle.shell_text.proofs.text_end.behind_text.Goals as goal

pub returns-in-Some : goal.returns-in-Some
returns-in-Some c =
    let bytes : List ℕ = c.args.bytes.now in
    let behind : ℕ = c.in-Some.end + 1 in
    let whole = take_all (length bytes - behind) (drop behind bytes) (omega (arith, length-drop behind bytes)) in
    subst (HasFront (Marked (IsText c.args.argument) 39) bytes) (sym whole) (HasFront-text c.args.argument bytes c.in-Some.end c.in-Some.ensures)
