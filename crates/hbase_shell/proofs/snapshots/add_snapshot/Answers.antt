use Rattle.std.proofs.Common.{◌≡◌, ◌↔◌, ℕ, List, Option, Some, subst}
use Rattle.hbase_shell.specs.Snapshots.{IsInSnapshot}
use Rattle.hbase_shell.proofs.SetLemmas.{contains-added, contains-kept}
use Rattle.hbase_shell.proofs.snapshots.add_snapshot.Goals as goal

-- what was found is the one snapshot that the place lies in
abbrev IsFound : List ℕ → Option (List ℕ) → Type 0
IsFound place found = (name : List ℕ) → (found ≡ Some name) ↔ IsInSnapshot name place

pub returns-in_ok-insert-clause-names : goal.returns-in_ok-insert-clause-names
returns-in_ok-insert-clause-names c =
    contains-added (λ name. IsInSnapshot name c.args.place.now) _ _ _ c.in_ok-insert.ensures.updates.0 (subst (IsFound c.args.place.now) c.in-Some.is c.in_ok-name.ensures)

pub returns-in_default-clause-names : goal.returns-in_default-clause-names
returns-in_default-clause-names c =
    contains-kept (λ name. IsInSnapshot name c.args.place.now) _ (subst (IsFound c.args.place.now) c.in_default.is c.in_ok-name.ensures)
