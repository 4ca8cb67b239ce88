-- Reading what was written gives the value, and two values are written differently.
use Rattle.std.proofs.Common.{◌≡◌, ℕ, List, subst, sym}
use Rattle.field_rules.specs.Values.{OneValue}
use Rattle.field_reader.specs.declared.fault.RecordError.{RecordError}
use Rattle.field_reader.specs.Faults.{Excludes}
use Rattle.manifest_writers.specs.ReadBack.{IsReadAs, AreReadBack, AreToldApart}

module _ {V : Type 0} (has : V → Type 0) (bytes : V → List ℕ) (spells : List ℕ → V → Type 0) (one : OneValue spells) (written : (v : V) → has v → spells (bytes v) v) where
  pub read_back : (fault : List ℕ → RecordError → Type 0) → Excludes spells fault → AreReadBack has bytes spells fault
  read_back fault apart v is = record {
    found = λ w other. one (bytes v) w v other (written v is);
    no_fault = λ e told. apart (bytes v) v e (written v is) told;
  }

  pub told_apart : AreToldApart has bytes
  told_apart v w is other same = one (bytes w) v w (subst (λ b. spells b v) same (written v is)) (written w other)
