use Rattle.std.proofs.Common.{◌≡◌, ℕ, ◌+◌, ◌<◌, List, [], ◌∷◌, ◌++◌, true, length, take, drop, get_or, refl, sym, ap, ◌∙◌, subst}
use Rattle.std.proofs.lemmas.List.{append-nil, take-append-drop, take_more}
use Rattle.hb_grammar.specs.Marked.{Marked}
use Rattle.hb_grammar.proofs.GrammarLemmas.{Leaves}
use Rattle.shell_text.specs.declared.argument.Argument.{Argument}
use Rattle.shell_text.specs.Argument.{Means}
use Rattle.shell_text.specs.Text.{Holds, IsText, is_plain}
use Rattle.shell_text.specs.TextLaws.{ArePlain, meaning-plain}
use Rattle.shell_text.specs.TextEnd.{HasFront, IsTextEnd}

-- one plain byte more
ArePlain-push : (bytes : List ℕ) (byte : ℕ) → ArePlain bytes → is_plain byte ≡ true → ArePlain (bytes ++ byte ∷ [])
ArePlain-push [] byte plain e = (e, tt)
ArePlain-push (x ∷ xs) byte plain e = (plain.0, ArePlain-push xs byte plain.1 e)

pub ArePlain-take : (bytes : List ℕ) (i : ℕ) → i < length bytes → ArePlain (take i bytes) → is_plain (get_or bytes i 0) ≡ true → ArePlain (take (i + 1) bytes)
ArePlain-take bytes i below plain e = subst ArePlain (sym (take_more bytes i 0 below)) (ArePlain-push (take i bytes) (get_or bytes i 0) plain e)

-- plain bytes before a quote are a text that means them
pub IsTextEnd-plain : (argument : Argument) (bytes : List ℕ) (at : ℕ) → at < length bytes → get_or bytes at 0 ≡ 39 → ArePlain (take at bytes) → Means argument (take at bytes) →
    IsTextEnd argument bytes at
IsTextEnd-plain argument bytes at inside quote plain means =
    record { inside = inside; quote = quote; text = subst (λ o. Holds o (Means argument)) (sym (meaning-plain (take at bytes) plain)) means }

-- bytes before a quote that leave nothing of a text are the text
pub IsTextEnd-Leaves : (argument : Argument) (left : List ℕ → Type 0) (bytes : List ℕ) (at : ℕ) → at < length bytes → get_or bytes at 0 ≡ 39 →
    Leaves (IsText argument) (take at bytes) left → left [] → IsTextEnd argument bytes at
IsTextEnd-Leaves argument left bytes at inside quote leaves whole =
    record { inside = inside; quote = quote; text = subst (IsText argument) (append-nil (take at bytes)) (leaves.back [] whole) }

-- the text and its quote stand at the front
pub HasFront-text : (argument : Argument) (bytes : List ℕ) (at : ℕ) → IsTextEnd argument bytes at → HasFront (Marked (IsText argument) 39) bytes (drop (at + 1) bytes)
HasFront-text argument bytes at end = record {
  front = take at bytes ++ 39 ∷ [];
  in_grammar = record { front = take at bytes; whole = refl; in_inner = end.text };
  whole = sym (take-append-drop (at + 1) bytes)
      ∙ ap (λ (x : List ℕ). x ++ drop (at + 1) bytes) (take_more bytes at 0 end.inside ∙ ap (λ (b : ℕ). take at bytes ++ b ∷ []) end.quote);
}
