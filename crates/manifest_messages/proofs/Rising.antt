-- Families whose names ascend, with one field more.
use Rattle.std.proofs.Common.{◌≡◌, ℕ, Bool, true, false, arith, length, List, [], ◌∷◌, ◌++◌, refl, sym, ap, subst, ◌∙◌}
use Rattle.std.specs.Prelude.{IsTrue}
use Rattle.std.specs.Ordering.{nat_cmp, on, is_lt}
use Rattle.std.specs.declared.cmp.Ordering.{Ordering}
use Rattle.std.specs.declared.cmp.Ordering.TheVariants.{Less, Equal, Greater}
use Rattle.std.specs.Cmp.Lexicographic.{slice_cmp, nat_list_cmp_total}
use Rattle.std.proofs.lemmas.Cmp.{on_total}
use Rattle.std.specs.List.Sorted.{IsStrictlySortedBy}
use Rattle.wire_fields.specs.Fields.{Part}
use Rattle.field_rules.specs.Values.{Inner}
use Rattle.field_rules.specs.Rules.{values_of, Spell, Rising}
use Rattle.field_rules.proofs.OneValues.{OneValue-Inner, OneValue-Spell}
use Rattle.field_reader.proofs.Pushes.{values_of-more, values_of-same, Spell-push}
use Rattle.snapshot_records.specs.Files.{File, IsFamilyFiles}
use Rattle.snapshot_records.proofs.Told.{OneValue-IsFamilyFiles}
use Rattle.manifest_messages.specs.Faults.{AreRising}
use Rattle.manifest_messages.proofs.Rises.{rising-push, rising-last, rising-one}

abbrev pub Family : Type 0
Family = List ℕ × List File

pub AreRising-none : AreRising []
unfolding IsStrictlySortedBy
AreRising-none = tt

pub Rising-none : Rising (Inner IsFamilyFiles) 3 [] []
Rising-none = record { each = tt; rise = AreRising-none }

pub Rising-more : (n : ℕ) (parts : List (ℕ × Part)) (vs : List Family) (x : Part) (v : Family) → Rising (Inner IsFamilyFiles) 3 parts vs → n ≡ 3 → Inner IsFamilyFiles x v
    → AreRising (vs ++ v ∷ []) → Rising (Inner IsFamilyFiles) 3 (parts ++ (n, x) ∷ []) (vs ++ v ∷ [])
Rising-more n parts vs x v so_far same is rise = record {
  each = subst (λ xs. Spell (Inner IsFamilyFiles) xs (vs ++ v ∷ [])) (sym (values_of-more 3 parts n x same)) (Spell-push (Inner IsFamilyFiles) (values_of 3 parts) vs x v so_far.each is);
  rise = rise;
}

pub Rising-same : (n : ℕ) (parts : List (ℕ × Part)) (vs : List Family) (x : Part) → Rising (Inner IsFamilyFiles) 3 parts vs → (n ≡ 3 → ⊥)
    → Rising (Inner IsFamilyFiles) 3 (parts ++ (n, x) ∷ []) vs
Rising-same n parts vs x so_far other = record {
  each = subst (λ xs. Spell (Inner IsFamilyFiles) xs vs) (sym (values_of-same 3 parts n x other)) so_far.each;
  rise = so_far.rise;
}

-- the families are no others
pub no_rise : (parts : List (ℕ × Part)) (vs : List Family) (x : Part) (v : Family) → Spell (Inner IsFamilyFiles) (values_of 3 parts) vs → Inner IsFamilyFiles x v → (AreRising (vs ++ v ∷ []) → ⊥)
    → (families : List Family) (family : Family) → Spell (Inner IsFamilyFiles) (values_of 3 parts) families → Inner IsFamilyFiles x family → AreRising (families ++ family ∷ []) → ⊥
no_rise parts vs x v before is none families family each is' rise =
    let one = OneValue-Inner IsFamilyFiles OneValue-IsFamilyFiles in
    let all : families ≡ vs = OneValue-Spell (Inner IsFamilyFiles) one (values_of 3 parts) families vs each before in
    let last : family ≡ v = one x family v is' is in
    none (subst (λ f. AreRising (vs ++ f ∷ [])) last (subst (λ fs. AreRising (fs ++ family ∷ [])) all rise))

less_is : (o : Ordering) → is_lt o ≡ true → o ≡ Less
less_is Less e = refl
less_is Equal e = cc
less_is Greater e = cc

abbrev name_cmp : Family → Family → Ordering
name_cmp = on (λ (v : Family). v.0) (slice_cmp nat_cmp)

pub AreRising-one : (vs : List Family) (v : Family) → length vs ≡ 0 → AreRising (vs ++ v ∷ [])
AreRising-one [] v none = rising-one name_cmp v
AreRising-one (w ∷ vs) v none = absurd (omega (arith, none))

pub not_true : IsTrue false → ⊥
not_true e = cc

-- what stands above the last of them stands above all
pub above_last : (vs front : List Family) (last v : Family) (b : Bool) → vs ≡ front ++ last ∷ [] → b ≡ is_lt (slice_cmp nat_cmp last.0 v.0) → AreRising vs
    → (IsTrue b → AreRising (vs ++ v ∷ [])) × (AreRising (vs ++ v ∷ []) → IsTrue b)
above_last vs front last v b whole is rising =
    let front_rises = subst AreRising whole rising in (
      λ yes. subst (λ ws. AreRising (ws ++ v ∷ [])) (sym whole) (rising-push name_cmp (on_total (λ (w : Family). w.0) nat_list_cmp_total) front last v (less_is (slice_cmp nat_cmp last.0 v.0) (sym is ∙ yes)) front_rises),
      λ rise. is ∙ ap is_lt (rising-last name_cmp front last v (subst (λ ws. AreRising (ws ++ v ∷ [])) whole rise)),
    )
