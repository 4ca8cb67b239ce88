use Rattle.std.proofs.Common.{◌≡◌, ℕ, ◌+◌, ◌-◌, List, ◌++◌, length, take, sym, subst, ap, ◌∙◌, arith, append_assoc}
use Rattle.std.proofs.lemmas.List.{length-append}
use Rattle.std.proofs.Math.Seq.{take-append-add}
use Rattle.hb_grammar.specs.Grammar.{IsReach, IsFault}
use Rattle.hb_grammar.proofs.GrammarLemmas.{Leaves}

-- behind some bytes the reach is further by as many
pub IsReach-Leaves : (old mid : List ℕ → Type 0) (front rest : List ℕ) (at : ℕ) → Leaves old front mid → IsReach mid rest at →
    IsReach old (front ++ rest) (length front + at)
IsReach-Leaves old mid front rest at leaves reach =
    let split : (n : ℕ) (r : List ℕ) → take (length front + n) (front ++ rest) ++ r ≡ front ++ (take n rest ++ r) =
    λ n r. ap (λ (x : List ℕ). x ++ r) (take-append-add front rest n) ∙ append_assoc front (take n rest) r in
    record {
      within = let inside = reach.within in omega (arith, length-append front rest);
      viable = (reach.viable.0, subst old (sym (split at reach.viable.0)) (leaves.back (take at rest ++ reach.viable.0) reach.viable.1));
      longest = λ more above within viable.
          let over : ℕ = more - length front in
          let same : more ≡ length front + over = omega arith in
          let spelled : old (front ++ (take over rest ++ viable.0)) =
          subst old (ap (λ (n : ℕ). take n (front ++ rest) ++ viable.0) same ∙ split over viable.0) viable.1 in
          reach.longest over (omega arith) (omega (arith, length-append front rest)) (viable.0, leaves.forth (take over rest ++ viable.0) spelled);
    }

-- so is a fault
pub IsFault-Leaves : (old mid : List ℕ → Type 0) (front rest : List ℕ) (at : ℕ) → Leaves old front mid → IsFault mid rest at →
    IsFault old (front ++ rest) (length front + at)
IsFault-Leaves old mid front rest at leaves fault = record {
  not_spelled = λ spelled. fault.not_spelled (leaves.forth rest spelled);
  reach = IsReach-Leaves old mid front rest at leaves fault.reach;
}
