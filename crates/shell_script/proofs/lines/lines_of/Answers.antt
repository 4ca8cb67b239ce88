use Rattle.std.proofs.Common.{◌≡◌, ℕ, ◌+◌, List, [], ◌∷◌, ◌++◌, true, false, length, sym, ap, ◌∙◌, subst, arith}
use Rattle.shell_value.specs.Cut.{behind}
use Rattle.shell_script.specs.Lines.{first_line, is_kept}
use Rattle.shell_script.proofs.LineLemmas.{length-behind, length-first_line, some_left}
use Rattle.shell_script.proofs.ScriptLemmas.{IsListed, IsListed-push, IsListed-skip}
use Rattle.shell_script.proofs.lines.lines_of.Goals as goal
use Rattle.shell_script.proofs.lines.lines_of.Goals.{then-is_kept+in_ok-push, else-is_kept}

pub loop-rest-smaller : goal.loop-rest-smaller
loop-rest-smaller c =
    let rest = c.loop-rest.rest.now in
    let some = some_left rest c.is_empty.result c.is_empty.ensures c.loop-rest-test.true in
    omega (arith, length-behind 10 rest some, ap length c.behind-rest.ensures)

pub loop-rest-preserved : goal.loop-rest-preserved
loop-rest-preserved c =
    let rest = c.loop-rest.rest.now in
    let some = some_left rest c.is_empty.result c.is_empty.ensures c.loop-rest-test.true in
    let bytes = c.args.bytes.now in
    let lines = c.loop-rest.lines.items in
    let number = c.loop-rest.number in
    let within = c.loop-rest.invariant.within in
    let text : c.first_line-text.result.now ≡ first_line rest = c.first_line-text.ensures in
    record {
      listed = subst (IsListed bytes c.if-is_kept.lines.items (number + 1)) (sym c.behind-rest.ensures)
          (elim c.if-is_kept.branch as (λ _. IsListed bytes c.if-is_kept.lines.items (number + 1) (behind 10 rest)) [
            | then-is_kept+in_ok-push w ↦
                let is : is_kept (first_line rest) ≡ true = sym (ap is_kept text) ∙ sym c.is_kept.ensures ∙ w.if-is_kept.true in
                let items : c.if-is_kept.lines.items ≡ lines ++ (number + 1, first_line rest) ∷ [] =
                ap (λ v. v.items) w.lines-is ∙ w.in_ok-push.ensures.items ∙ ap (λ (t : List ℕ). lines ++ (number + 1, t) ∷ []) text in
                subst (λ (l : List (ℕ × List ℕ)). IsListed bytes l (number + 1) (behind 10 rest)) (sym items)
                (IsListed-push bytes lines number rest some is (omega (arith, length-first_line rest)) c.loop-rest.invariant.listed)
            | else-is_kept w ↦
                let none : is_kept (first_line rest) ≡ false = sym (ap is_kept text) ∙ sym c.is_kept.ensures ∙ w.if-is_kept.false in
                let items : c.if-is_kept.lines.items ≡ lines = ap (λ v. v.items) w.lines-is in
                subst (λ (l : List (ℕ × List ℕ)). IsListed bytes l (number + 1) (behind 10 rest)) (sym items)
                (IsListed-skip bytes lines number rest some none c.loop-rest.invariant.listed)
          ]);
      within = omega (arith, length-behind 10 rest some, ap length c.behind-rest.ensures);
    }
