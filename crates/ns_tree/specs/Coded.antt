-- How the logic stores a tree.
use Rattle.std.specs.Prelude.{ℕ, List, refl}
use Rattle.std.specs.Coded.{Coded, code_by, coded×, coded_ℕ, coded_list}
use Rattle.std.specs.FinMap as map
use Rattle.std.specs.Ordering.{nat_cmp}
use Rattle.std.specs.Cmp.Lexicographic.{slice_cmp}
use Rattle.ns_tree.specs.declared.file.FileState.{FileState}

-- a file is stored as the pair of its fields
abbrev pub file_code : Coded FileState
file_code = code_by (List ℕ × ℕ) (coded× (coded_list coded_ℕ) coded_ℕ) (λ f. (f.bytes, f.moment)) (λ p. record { bytes = p.0; moment = p.1 }) (λ _. refl)

-- a tree is stored as the list of its entries
abbrev pub tree_code : Coded (map.FinMap (slice_cmp nat_cmp) FileState)
tree_code = map.code (coded_list coded_ℕ) file_code
