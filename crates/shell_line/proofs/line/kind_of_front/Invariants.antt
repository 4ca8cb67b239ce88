use Rattle.std.proofs.Common.{All, take}
use Rattle.shell_line.specs.Line.{Begins, word}
use Rattle.shell_line.proofs.line.kind_of_front.Given as goal

-- no kind so far has a word that begins with the bytes
abbrev pub invariant-loop-kind : goal.invariant-loop-kind
invariant-loop-kind l = All (λ kind. Begins l.bytes (word kind) → ⊥) (take l.kind-index l.kinds)
