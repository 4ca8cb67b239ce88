-- Names that are drawn: the next is none of those before, and what was known of these stays.
use Rattle.std.proofs.Common.{◌≡◌, ℕ, ◌+◌, ◌<◌, ◌++◌, List, [], Option, None, sym, ap, ◌∙◌, append_assoc, arith, ◌≤◌}
use Rattle.std.proofs.lemmas.List.{append_cancel_left, append_cancel_right}
use Rattle.hb_file_names.specs.FileParts.{suffix_text, sixteen_digits}
use Rattle.core_model.specs.Entries.{stem}
use Rattle.hb_file_names.proofs.DigitsLemmas.{sixteen_digits-injective}
use Rattle.core_model.specs.FileFacts.{IsDrawn}
use Rattle.core_model.specs.FileGuards.{next_name}
use Rattle.core_sound.proofs.NameFacts.{drawn_digits}

-- a name that was drawn has other digits than the next
pub other_digits : (epoch files : ℕ) (name : List ℕ) → files ≤ 4_194_304 → IsDrawn epoch files name → stem name ≡ next_name epoch files None → ⊥
other_digits epoch files name few d e = d.not_again files (reach files) few e
  where
    reach : (n : ℕ) → n ≤ n
    reach n = grind (arith)

-- names that are drawn one after the other differ
pub other_names : (epoch m n : ℕ) → m ≤ 4_194_304 → n ≤ 4_194_304 → m < n → next_name epoch m None ≡ next_name epoch n None → ⊥
other_names epoch m n u v w e =
    let d = append_cancel_left (sixteen_digits epoch) _ _ e in
    let i : m + 1 ≡ n + 1 = sixteen_digits-injective (m + 1) (n + 1) (grind (arith, u)) (grind (arith, v)) (append_cancel_right (sixteen_digits (m + 1)) (sixteen_digits (n + 1)) [] d) in
    grind (arith, w, i)

-- the digits of a written name, and of one with a number behind
pub stem_drawn : (epoch k : ℕ) (name : List ℕ) → name ≡ next_name epoch k None → stem name ≡ name
stem_drawn epoch k name e = ap stem e ∙ drawn_digits epoch k None ∙ sym e

suffixed : (epoch k : ℕ) (seq : Option ℕ) → next_name epoch k None ++ suffix_text seq ≡ next_name epoch k seq
suffixed epoch k seq = append_assoc (sixteen_digits epoch) (sixteen_digits (k + 1) ++ suffix_text None) (suffix_text seq)
    ∙ ap (λ x. sixteen_digits epoch ++ x) (append_assoc (sixteen_digits (k + 1)) (suffix_text None) (suffix_text seq))

pub stem_suffixed : (epoch k : ℕ) (name : List ℕ) (seq : Option ℕ) → name ≡ next_name epoch k None → stem (name ++ suffix_text seq) ≡ name
stem_suffixed epoch k name seq e = ap (λ x. stem (x ++ suffix_text seq)) e ∙ ap stem (suffixed epoch k seq) ∙ drawn_digits epoch k seq ∙ sym e
