-- The lines of a script.
use Rattle.std.specs.Prelude.{ℕ, ◌==◌, Bool, false, not, cond, List, [], ◌∷◌, filter}
use Rattle.std.specs.List.{enumerate_from}
use Rattle.std.specs.Str.Lines.{lines, strip_carriage_return}
use Rattle.shell_value.specs.Cut.{before, has_mark}

-- whether a line counts: it is neither empty nor a comment, which begins with #, whose code is 35
abbrev pub is_kept : List ℕ → Bool
is_kept [] = false
is_kept (byte ∷ bytes) = not (byte == 35)

-- the first line without its end: a line feed, whose code is 10, and a carriage return before that; or all, where none ends it
abbrev pub first_line : List ℕ → List ℕ
first_line bytes = cond (has_mark 10 bytes) (strip_carriage_return (before 10 bytes)) bytes

-- the lines that count, with their numbers, where the first line has this number
abbrev pub kept_lines : ℕ → List ℕ → List (ℕ × List ℕ)
kept_lines first bytes = filter (λ numbered. is_kept numbered.1) (enumerate_from first (lines bytes))
