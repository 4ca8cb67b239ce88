-- That a valid tree has no fault.
use Rattle.std.specs.Prelude.{ℕ, List}
use Rattle.ns_tree.specs.Tree.{Tree}
use Rattle.core_opens.specs.Faults.{Fault, FaultAt}
use Rattle.core_opens.specs.Valid.{IsValid}

abbrev pub HasNoFault : Tree → List ℕ → Fault → Type 0
HasNoFault tree place fault = IsValid tree → FaultAt fault tree place → ⊥
