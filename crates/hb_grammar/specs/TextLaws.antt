use Rattle.std.proofs.Common.{◌≡◌, ℕ, List, [], refl}
use Rattle.hb_grammar.specs.Grammar.{IsLive, Refuses}

-- one text is a string
pub IsLive-text : (text : List ℕ) → IsLive (λ bytes. bytes ≡ text)
IsLive-text text = (text, refl)

-- behind the text of no bytes stands nothing
pub Refuses-text : (text : List ℕ) → [] ≡ text → (byte : ℕ) → Refuses (λ bytes. bytes ≡ text) byte
Refuses-text text e byte = λ rest more. cc
