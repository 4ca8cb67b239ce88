use Rattle.std.proofs.Common.{ap, sym, subst, ◌∙◌, Some, List, ℕ}
use Rattle.hb_names.specs.SnapName.{IsSnapName}
use Rattle.hbase_shell.specs.Snapshots.{IsInDirectory}
use Rattle.hbase_shell.proofs.PlaceLemmas.{IsInDirectory-snapshot, IsInSnapshot-directory, name-IsInSnapshot}
use Rattle.hbase_shell.proofs.snapshots.snapshot_of.Goals as goal

pub returns-in_default : goal.returns-in_default
returns-in_default c name = (
  λ e. cc,
  λ inside. absurd (c.in_default.ensures.none name (subst (λ p. IsInDirectory name p) (sym c.as_slice.ensures.bytes) (IsInDirectory-snapshot name _ inside))),
)

pub returns-in-Ok : goal.returns-in-Ok
returns-in-Ok c name = (
  λ e. IsInSnapshot-directory name _ _ _ c.in-Some.ensures.found c.as_slice.ensures.bytes c.in-Ok.ensures.found (let same = c.in-Ok.ensures.same in cc),
  λ inside. ap (λ (x : List ℕ). Some x) (c.in-Ok.ensures.same ∙ name-IsInSnapshot name _ _ _ c.in-Some.ensures.found c.as_slice.ensures.bytes inside),
)

pub returns-in-Err-Bad : goal.returns-in-Err-Bad
returns-in-Err-Bad c name = (
  λ e. cc,
  λ inside. let same = name-IsInSnapshot name _ _ _ c.in-Some.ensures.found c.as_slice.ensures.bytes inside in
      let refused = (rw c.in-Err-Bad.field-0-is at c.in-Err-Bad.ensures.refused) in
      absurd (refused.not_spelled (subst IsSnapName (sym same) inside.named)),
)
