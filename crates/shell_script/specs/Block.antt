-- Block lines, each of which begins a session of a script.
use Rattle.std.specs.Prelude.{◌≡◌, ℕ, Bool, true, ◌&&◌, nat_eq, nat_le, List, codes, drop, filter, length, map}
use Rattle.std.specs.List.{list_all, list_any, starts_with}
use Rattle.std.specs.Str.{bytes_eq}
use Rattle.hb_grammar.specs.declared.class.Class.TheVariants.{NameStart}
use Rattle.hb_grammar.specs.Class.{has}

-- whether bytes are the name of a block: 1 to 32 letters, digits or _
abbrev pub is_block_name : List ℕ → Bool
is_block_name name = nat_le 1 (length name) && nat_le (length name) 32 && list_all (has NameStart) name

-- what stands behind the mark of a block line, which is four bytes
abbrev pub block_name : List ℕ → List ℕ
block_name line = drop 4 line

-- whether a line is a block line: its mark, and a name
abbrev pub is_block : List ℕ → Bool
is_block line = starts_with nat_eq line (codes "=== ") && is_block_name (block_name line)

-- a block line
abbrev pub IsBlock : List ℕ → Type 0
IsBlock line = is_block line ≡ true

-- whether a line begins a session, in a script with blocks or without
abbrev pub begins : Bool → List ℕ → Bool
begins blocks line = blocks && is_block line

-- the names of the sessions that some lines begin
abbrev pub names_of : Bool → List (ℕ × List ℕ) → List (List ℕ)
names_of blocks lines = map (λ line. block_name line.1) (filter (λ line. begins blocks line.1) lines)

-- whether a name is among some
abbrev pub is_used : List (List ℕ) → List ℕ → Bool
is_used names name = list_any (λ used. bytes_eq used name) names
