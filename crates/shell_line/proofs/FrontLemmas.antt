use Rattle.std.proofs.Common.{◌≡◌, List, ℕ, [], ◌++◌, refl, ap, sym, ◌∙◌, inl, inr, false}
use Rattle.std.proofs.lemmas.List.{append_assoc}
use Rattle.hb_grammar.specs.Grammar.{Same}
use Rattle.hb_grammar.specs.Joined.{Joined}
use Rattle.hb_grammar.specs.Numeral.{IsNumeral}
use Rattle.shell_text.specs.TextEnd.{HasFront}
use Rattle.shell_line.specs.Table.{IsLead, IsStamp}
use Rattle.shell_line.specs.declared.form.TheConstants.{MAX_STAMP}

-- a front of the same strings
pub HasFront-Same : (a b : List ℕ → Type 0) → Same a b → (bytes front rest : List ℕ) → bytes ≡ front ++ rest → a front → HasFront b bytes rest
HasFront-Same a b same bytes front rest whole spelled = record { front = front; in_grammar = same.forth front spelled; whole = whole }

-- one front behind another
pub HasFront-Joined : (first second : List ℕ → Type 0) (bytes mid rest : List ℕ) → HasFront first bytes mid → HasFront second mid rest →
    HasFront (Joined first second) bytes rest
HasFront-Joined first second bytes mid rest a b = record {
  front = a.front ++ b.front;
  in_grammar = record { front = a.front; back = b.front; whole = refl; in_first = a.in_grammar; in_second = b.in_grammar };
  whole = a.whole ∙ ap (λ (x : List ℕ). a.front ++ x) b.whole ∙ sym (append_assoc a.front b.front rest);
}

-- a front, and what stands behind it
pub Joined-HasFront : (first second : List ℕ → Type 0) (bytes rest : List ℕ) → HasFront first bytes rest → second rest → Joined first second bytes
Joined-HasFront first second bytes rest a spelled = record { front = a.front; back = rest; whole = a.whole; in_first = a.in_grammar; in_second = spelled }

-- a comma and a timestamp
pub IsStamp-number : (bytes rest : List ℕ) → HasFront (IsLead false 44) bytes rest → IsNumeral 0 MAX_STAMP rest → IsStamp bytes
IsStamp-number bytes rest lead number =
    inr (Joined-HasFront (IsLead false 44) _ bytes rest lead (record { front = []; back = rest; whole = refl; in_first = tt; in_second = inl number }))
