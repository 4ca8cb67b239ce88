use Rattle.std.proofs.Common.{◌≡◌, ℕ, ◌≤◌, ◌-◌, List, length, take, drop, codes, refl, sym, subst, Option}
use Rattle.hb_grammar.specs.Grammar.{IsLive}
use Rattle.hb_grammar.specs.Marked.{Marked}
use Rattle.hb_grammar.specs.TextOf.{IsTextOf}
use Rattle.commit_line.specs.declared.error.ListError.{ListError}
use Rattle.commit_line.specs.Line.{field}
use Rattle.commit_line.specs.ListError.{IsFrontRefusal, IsValueAt, IsWord}
use Rattle.commit_line.proofs.ReadLemmas.{IsFrontRefusal-Same, IsFrontRefusal-IsPair_first, IsFrontRefusal-IsPair_second, IsValueAt-IsPair, IsValueAt-IsWord, IsValueAt-map}
use Rattle.region_set.specs.FamilyLine.{IsFamilyBehind, IsNameBehind, family_text}
use Rattle.region_set.proofs.FieldLemmas.{Always, Same-fixed, IsTold-Always, Same-field, IsTold-field, last_number}
use Rattle.region_set.proofs.FamilyLineLemmas.{Avoids-IsNameBehind, IsVersions, IsLive-IsVersions, IsNamed, named_text, IsLive-IsNamed, family_word, IsLine, line_text, Same-family, IsFamilyBehind-IsNamed}

-- the first word of a family's line stands between two places
abbrev pub IsFamilyWord : List ℕ → ℕ → ℕ → Type 0
IsFamilyWord = IsWord (λ word. word ≡ codes "family") 32

-- it is the first part of a line
IsValueAt-IsFamilyWord : (bytes : List ℕ) (at mid : ℕ) → at ≤ length bytes → IsFamilyWord bytes at mid → IsValueAt Always (λ word. field (family_word word)) bytes at tt mid
IsValueAt-IsFamilyWord bytes at mid inside found =
    IsValueAt-IsWord Always family_word (λ word. word ≡ codes "family") 32 bytes at mid inside found tt tt (sym found.spelled)

-- a name stands behind it
IsValueAt-IsNameBehind : (last : Option (List ℕ × ℕ)) (bytes : List ℕ) (at end : ℕ) → at ≤ length bytes → IsWord (IsNameBehind last) 32 bytes at end →
    IsValueAt (IsNameBehind last) field bytes at (take (end - 1 - at) (drop at bytes)) end
IsValueAt-IsNameBehind last bytes at end inside found =
    IsValueAt-IsWord (IsNameBehind last) (λ name. name) (IsNameBehind last) 32 bytes at end inside found (take (end - 1 - at) (drop at bytes)) found.spelled refl

-- a refusal of the first word is one of the family
pub IsFrontRefusal-word : (last : Option (List ℕ × ℕ)) → IsLive (IsNameBehind last) → (bytes : List ℕ) (at : ℕ) (error : ListError) →
    IsFrontRefusal (Marked (λ word. word ≡ codes "family") 32) bytes at error → IsFrontRefusal (IsTextOf (IsFamilyBehind last) family_text) bytes at error
IsFrontRefusal-word last live bytes at error refused =
    IsFrontRefusal-Same _ _ (Same-family last) bytes at error
    (IsFrontRefusal-IsPair_first Always (λ word. field (family_word word)) (λ _. IsNamed last) named_text (λ _ _. IsLive-IsNamed last live) bytes at error
    (IsFrontRefusal-Same _ _ (Same-fixed (codes "family")) bytes at error refused))

-- a refusal of what stands behind the first word is one of the family
IsFrontRefusal-named : (last : Option (List ℕ × ℕ)) (bytes : List ℕ) (at mid : ℕ) → at ≤ length bytes → IsFamilyWord bytes at mid → (error : ListError) →
    IsFrontRefusal (IsTextOf (IsNamed last) named_text) bytes mid error → IsFrontRefusal (IsTextOf (IsFamilyBehind last) family_text) bytes at error
IsFrontRefusal-named last bytes at mid inside first error refused =
    IsFrontRefusal-Same _ _ (Same-family last) bytes at error
    (IsFrontRefusal-IsPair_second Always (λ word. field (family_word word)) (λ _. IsNamed last) named_text (IsTold-Always (field (codes "family"))) bytes at mid tt
    (IsValueAt-IsFamilyWord bytes at mid inside first) error refused)

-- so is one of the name
pub IsFrontRefusal-name : (last : Option (List ℕ × ℕ)) (bytes : List ℕ) (at mid : ℕ) → at ≤ length bytes → IsFamilyWord bytes at mid → (error : ListError) →
    IsFrontRefusal (Marked (IsNameBehind last) 32) bytes mid error → IsFrontRefusal (IsTextOf (IsFamilyBehind last) family_text) bytes at error
IsFrontRefusal-name last bytes at mid inside first error refused =
    IsFrontRefusal-named last bytes at mid inside first error
    (IsFrontRefusal-IsPair_first (IsNameBehind last) field (λ _. IsVersions) last_number (λ _ _. IsLive-IsVersions) bytes mid error
    (IsFrontRefusal-Same _ _ (Same-field (IsNameBehind last)) bytes mid error refused))

-- and one of the number of versions
pub IsFrontRefusal-versions : (last : Option (List ℕ × ℕ)) (bytes : List ℕ) (at mid end : ℕ) → at ≤ length bytes → IsFamilyWord bytes at mid →
    IsWord (IsNameBehind last) 32 bytes mid end → (error : ListError) → IsFrontRefusal (IsTextOf IsVersions last_number) bytes end error →
    IsFrontRefusal (IsTextOf (IsFamilyBehind last) family_text) bytes at error
IsFrontRefusal-versions last bytes at mid end inside first name error refused =
    IsFrontRefusal-named last bytes at mid inside first error
    (IsFrontRefusal-IsPair_second (IsNameBehind last) field (λ _. IsVersions) last_number (IsTold-field (IsNameBehind last) (Avoids-IsNameBehind last)) bytes mid end
    (take (end - 1 - mid) (drop mid bytes)) (IsValueAt-IsNameBehind last bytes mid end first.within name) error refused)

-- a name and a number of versions behind the first word are a family
pub IsValueAt-family : (last : Option (List ℕ × ℕ)) (bytes : List ℕ) (at mid back end : ℕ) (name : List ℕ) (versions : ℕ) → at ≤ length bytes → IsFamilyWord bytes at mid →
    IsWord (IsNameBehind last) 32 bytes mid back → name ≡ take (back - 1 - mid) (drop mid bytes) → IsValueAt IsVersions last_number bytes back versions end →
    IsValueAt (IsFamilyBehind last) family_text bytes at (name, versions) end
IsValueAt-family last bytes at mid back end name versions inside first found same last_word =
    let named = IsValueAt-IsPair (IsNameBehind last) field (λ _. IsVersions) last_number bytes mid back end name versions
    (subst (λ (x : List ℕ). IsValueAt (IsNameBehind last) field bytes mid x back) (sym same) (IsValueAt-IsNameBehind last bytes mid back first.within found)) last_word in
    let line = IsValueAt-IsPair Always (λ word. field (family_word word)) (λ _. IsNamed last) named_text bytes at mid end tt (name, versions)
    (IsValueAt-IsFamilyWord bytes at mid inside first) named in
    IsValueAt-map (IsLine last) line_text (IsFamilyBehind last) family_text (λ family. family.1) (λ family ok. IsFamilyBehind-IsNamed last family.1 ok.1) (λ family. refl)
    bytes at end (tt, (name, versions)) line
