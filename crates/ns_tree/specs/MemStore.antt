-- A store in memory: its tree, and which of its calls fail.
use Rattle.std.specs.Prelude.{ℕ, List, Bool, cond, ◌==◌, Option, option_map, is_some, refl}
use Rattle.std.specs.Coded.{Coded, code_by, coded×, coded_ℕ, coded_bool, coded_list}
use Rattle.std.specs.List.{list_any, find}
use Rattle.hb_causes.specs.Faults.{next}
use Rattle.ns_tree.specs.Tree.{Tree}
use Rattle.ns_tree.specs.Coded.{tree_code}

-- the tree; the numbers of the writing calls that fail, with whether each takes effect, and of the reading calls that do;
-- how many of each were made, and how many failed
pub record MemStore : Type 0 where
  pub tree : Tree
  pub writes : List (ℕ × Bool)
  pub reads : List ℕ
  pub written : ℕ
  pub read : ℕ
  pub faults : ℕ

-- a store is stored as the tuple of its fields
abbrev pub mem_store_code : Coded MemStore
mem_store_code =
    code_by (Tree × (List (ℕ × Bool) × (List ℕ × (ℕ × (ℕ × ℕ)))))
    (coded× tree_code (coded× (coded_list (coded× coded_ℕ coded_bool)) (coded× (coded_list coded_ℕ) (coded× coded_ℕ (coded× coded_ℕ coded_ℕ)))))
    (λ m. (m.tree, (m.writes, (m.reads, (m.written, (m.read, m.faults))))))
    (λ p. record { tree = p.0; writes = p.1.0; reads = p.1.1.0; written = p.1.1.1.0; read = p.1.1.1.1.0; faults = p.1.1.1.1.1 })
    (λ _. refl)

-- whether the next reading call fails
abbrev pub is_failing_read : MemStore → Bool
is_failing_read m = list_any (λ n. n == next m.read) m.reads

-- after a reading call: the tree stays
abbrev pub after_read : MemStore → MemStore
after_read m = record m { read = next m.read; faults = cond (is_failing_read m) (next m.faults) m.faults }

-- whether the next writing call fails, and then whether it takes effect: the first pair with its number says
abbrev pub write_fate : MemStore → Option Bool
write_fate m = option_map (λ w. w.1) (find (λ w. w.0 == next m.written) m.writes)

-- after a writing call that left this tree
abbrev pub after_write : Tree → MemStore → MemStore
after_write tree m = record m { tree = tree; written = next m.written; faults = cond (is_some (write_fate m)) (next m.faults) m.faults }
