-- How places lie to each other. A place is its text as bytes.
use Rattle.std.specs.Prelude.{ℕ, ◌+◌, ◌==◌, List, ◌++◌, length, drop, count_by, Bool, ◌||◌, cond, codes, nat_eq, nat_lt}
use Rattle.std.specs.List.{starts_with}
use Rattle.std.specs.Cmp.Lexicographic.{pointwise}
use Rattle.hb_names.specs.declared.place.TheConstants.{MAX_COMPONENTS}

-- whether a place lies below a directory: its text begins with the directory's text and a slash
unfoldable pub is_below : List ℕ → List ℕ → Bool
is_below dir place = starts_with nat_eq place (dir ++ codes "/")

-- whether a place is this one or lies below it
abbrev pub is_within : List ℕ → List ℕ → Bool
is_within dir place = pointwise nat_eq dir place || is_below dir place

-- how many components a place has: the parts between its slashes
abbrev pub component_count : List ℕ → ℕ
component_count place = count_by (λ byte. byte == 47) place + 1

-- whether a place would have more components than a place may have
abbrev pub is_too_deep : List ℕ → Bool
is_too_deep place = nat_lt MAX_COMPONENTS (component_count place)

-- where a file goes when `from` becomes `to`: to the same place below `to` that it has below `from`
abbrev pub target_of : List ℕ → List ℕ → List ℕ → List ℕ
target_of from to place = to ++ drop (length from) place

-- where each file stands after that: those at or below `from` move
abbrev pub moved_place : List ℕ → List ℕ → List ℕ → List ℕ
moved_place from to place = cond (is_within from place) (target_of from to place) place
