use Rattle.std.proofs.Common.{◌≡◌, All, take}
use Rattle.shell_line.specs.Line.{word}
use Rattle.shell_line.proofs.line.kind_of_word.Given as goal

-- no kind so far has the bytes as its word
abbrev pub invariant-loop-kind : goal.invariant-loop-kind
invariant-loop-kind l = All (λ kind. word kind ≡ l.bytes → ⊥) (take l.kind-index l.kinds)
