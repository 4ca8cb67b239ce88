use Rattle.std.proofs.Common.{◌≡◌, ℕ, List, Some, None, subst}
use Rattle.hb_names.specs.FamilyName.{IsFamilyName}
use Rattle.region_set.proofs.FamilyLineLemmas.{IsLive-IsNameBehind}
use Rattle.region_set.proofs.family_line.name_grammar.Goals as goal

pub returns-in-Some-clause-live : goal.returns-in-Some-clause-live
returns-in-Some-clause-live c =
    rw c.in-Some.is (IsLive-IsNameBehind (Some c.in-Some.family.now)
    (λ family e. let same : c.in-Some.family.now ≡ family = cc in subst (λ (x : List ℕ × ℕ). IsFamilyName x.0) same c.as_slice.ensures.valid))

pub returns-in-None-clause-live : goal.returns-in-None-clause-live
returns-in-None-clause-live c = let h = c.in-None.is in rw h (IsLive-IsNameBehind None (λ family e. cc))
