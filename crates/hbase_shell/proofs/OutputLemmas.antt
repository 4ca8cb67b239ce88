-- Texts that are written piece by piece.
use Rattle.std.proofs.Common.{◌≡◌, ℕ, ◌+◌, List, ◌++◌, take, drop, Option, Some, None, option_map, ap, sym, ◌∙◌}
use Rattle.std.proofs.Math.Seq.{take-add}
use Rattle.std.proofs.lemmas.List.{append_assoc}
use Rattle.hbase_shell.specs.Output.{Writes}

-- a front of the text, and then a front of its rest, make a longer front
pub Writes-more : (old mid new : Option (List ℕ)) (text piece : List ℕ) (done n : ℕ) → Writes old mid (take done text) → piece ≡ drop done text →
    new ≡ option_map (λ sent. sent ++ take n piece) mid → Writes old new (take (done + n) text)
Writes-more None mid new text piece done n w rest e = tt
Writes-more (Some written) mid new text piece done n w rest e =
    e ∙ ap (option_map (λ sent. sent ++ take n piece)) w
    ∙ ap (λ (bytes : List ℕ). Some bytes) (append_assoc written (take done text) (take n piece)
    ∙ ap (λ (bytes : List ℕ). written ++ bytes) (ap (λ (bytes : List ℕ). take done text ++ take n bytes) rest ∙ sym (take-add done n text)))
