-- Lists with the same cells.
use Rattle.std.proofs.Common.{◌≡◌, ℕ, ◌+◌, ◌*◌, Bool, true, false, cond, ◌||◌, List, [], ◌∷◌, ◌++◌, refl, sym, ap, ◌∙◌, subst, inl, inr, arith, zero-add}
use Rattle.std.specs.Prelude.{count_by}
use Rattle.std.specs.List.{flat_map, list_any}
use Rattle.std.proofs.lemmas.Grind.{flat_map-append}
use Rattle.hb_cell.specs.declared.cell.Cell.{Cell}
use Rattle.hb_cell.specs.Order.{same_bytes, is_below}
use Rattle.cell_sight.specs.Same.{Same}
use Rattle.cell_sight.proofs.Counts.{count-append, count-cons}
use Rattle.core_model.specs.declared.entry.Entry.{Entry}
use Rattle.core_model.specs.Entries.{Made, cells_of, cells_in}
use Rattle.cell_sight.specs.Member.{Member}
use Rattle.core_model.specs.ListGuards.{families_in, name_in_place}
use Rattle.core_model.specs.Recipes.{of_family}
use Rattle.core_sound.proofs.Tests.{same_bytes-true, same_bytes-self}

pub cells_in-append : (m : Made) (xs ys : List Entry) → cells_in m (xs ++ ys) ≡ cells_in m xs ++ cells_in m ys
cells_in-append m xs ys = flat_map-append (cells_of m) xs ys

-- each family of some cells stands once among their families

place-count : (x n : List ℕ) (ms : List (List ℕ)) → count_by (same_bytes x) (name_in_place n ms) ≡ cond (same_bytes x n) 1 0 + count_by (same_bytes x) ms
place-count x n [] = count-cons (same_bytes x) n []
place-count x n (m ∷ ms) = let h = place-count x n ms in
    elim (is_below n m) as (λ b. count_by (same_bytes x) (cond b (n ∷ m ∷ ms) (m ∷ name_in_place n ms)) ≡ cond (same_bytes x n) 1 0 + count_by (same_bytes x) (m ∷ ms)) [
      | true ↦ count-cons (same_bytes x) n (m ∷ ms)
      | false ↦ omega (arith, count-cons (same_bytes x) m (name_in_place n ms), count-cons (same_bytes x) m ms)
    ]

pub none-count : {X : Type 0} (p : X → Bool) (xs : List X) → list_any p xs ≡ false → count_by p xs ≡ 0
none-count p [] e = refl
none-count p (x ∷ xs) e = (elim (p x) as (λ b. p x ≡ b → (b || list_any p xs) ≡ false → count_by p (x ∷ xs) ≡ 0) [
  | true ↦ λ d k. absurd (cc)
  | false ↦ λ d k. count-cons p x xs ∙ ap (λ b. cond b 1 0 + count_by p xs) d ∙ zero-add (count_by p xs) ∙ none-count p xs k
]) refl e

-- whether a family is that of one of the cells
abbrev has_family : List Cell → List ℕ → Bool
has_family cs x = list_any (λ (c : Cell). same_bytes x c.family) cs

abbrev ones : Bool → ℕ
ones b = cond b 1 0

one_more : (a b : Bool) → (a ≡ true → b ≡ false) → ones a + ones b ≡ ones (a || b)
one_more true true h = let z = h refl in absurd (cc)
one_more true false h = refl
one_more false true h = refl
one_more false false h = refl

or_there : (a b : Bool) → (a ≡ true → b ≡ true) → ones b ≡ ones (a || b)
or_there true b h = ap ones (h refl)
or_there false b h = refl

one-true : (b : Bool) → ones b ≡ 0 → b ≡ false
one-true true e = absurd (omega arith)
one-true false e = refl

there-count : (b : Bool) (n : ℕ) (fs : List (List ℕ)) (x : List ℕ) → list_any (same_bytes x) fs ≡ true → count_by (same_bytes x) fs ≡ ones b → b ≡ true
there-count true n fs x h e = refl
there-count false n [] x h e = h
there-count false n (f ∷ fs) x h e = (elim (same_bytes x f) as (λ d. same_bytes x f ≡ d → (d || list_any (same_bytes x) fs) ≡ true → false ≡ true) [
  | true ↦ λ k i. let z = count-cons (same_bytes x) f fs ∙ ap (λ d. cond d 1 0 + count_by (same_bytes x) fs) k in absurd (omega (arith, z, e))
  | false ↦ λ k i. there-count false n fs x i (sym (count-cons (same_bytes x) f fs ∙ ap (λ d. cond d 1 0 + count_by (same_bytes x) fs) k ∙ zero-add _) ∙ e)
]) refl h

pub family-once : (cs : List Cell) (x : List ℕ) → count_by (same_bytes x) (families_in cs) ≡ ones (has_family cs x)
family-once [] x = refl
family-once (c ∷ cs) x = let fs = families_in cs in
    (elim (list_any (same_bytes c.family) fs) as (λ b. list_any (same_bytes c.family) fs ≡ b → count_by (same_bytes x) (cond b fs (name_in_place c.family fs)) ≡ ones (same_bytes x c.family || has_family cs x)) [
      | true ↦ λ d. family-once cs x ∙ or_there (same_bytes x c.family) (has_family cs x) (λ e. there-count (has_family cs x) 0 fs x (subst (λ y. list_any (same_bytes y) fs ≡ true) (sym (same_bytes-true x c.family e)) d) (family-once cs x))
      | false ↦ λ d. place-count x c.family fs ∙ ap (λ n. ones (same_bytes x c.family) + n) (family-once cs x)
          ∙ one_more (same_bytes x c.family) (has_family cs x) (λ e. one-true (has_family cs x) (sym (family-once cs x) ∙ none-count (same_bytes x) fs (subst (λ y. list_any (same_bytes y) fs ≡ false) (sym (same_bytes-true x c.family e)) d)))
    ]) refl

-- the cells of each of some families, one after another
abbrev pub of_families : List (List ℕ) → List Cell → List Cell
of_families fs cs = flat_map (λ f. of_family f cs) fs

none-families : (fs : List (List ℕ)) → of_families fs [] ≡ []
none-families [] = refl
none-families (f ∷ fs) = none-families fs

family-cons : (p : Cell → Bool) (f : List ℕ) (c : Cell) (cs : List Cell) → count_by p (of_family f (c ∷ cs)) ≡ cond (same_bytes c.family f) (cond (p c) 1 0) 0 + count_by p (of_family f cs)
family-cons p f c cs = elim (same_bytes c.family f) as (λ b. count_by p (cond b (c ∷ of_family f cs) (of_family f cs)) ≡ cond b (cond (p c) 1 0) 0 + count_by p (of_family f cs)) [
  | true ↦ count-cons p c (of_family f cs)
  | false ↦ sym (zero-add _)
]

one_times : (n : ℕ) (b : Bool) → (1 + n) * cond b 1 0 ≡ cond b 1 0 + n * cond b 1 0
one_times n true = omega arith
one_times n false = omega arith

no_times : (b : Bool) → 0 ≡ 0 * cond b 1 0 + 0
no_times true = omega arith
no_times false = omega arith

families-cons : (p : Cell → Bool) (fs : List (List ℕ)) (c : Cell) (cs : List Cell) → count_by p (of_families fs (c ∷ cs)) ≡ count_by (same_bytes c.family) fs * cond (p c) 1 0 + count_by p (of_families fs cs)
families-cons p [] c cs = no_times (p c)
families-cons p (f ∷ fs) c cs =
    let h = families-cons p fs c cs in
    let a = count-append p (of_family f (c ∷ cs)) (of_families fs (c ∷ cs)) in
    let b = count-append p (of_family f cs) (of_families fs cs) in
    let k = family-cons p f c cs in
    let n = count-cons (same_bytes c.family) f fs in
    (elim (same_bytes c.family f) as (λ d. count_by p (of_family f (c ∷ cs)) ≡ cond d (cond (p c) 1 0) 0 + count_by p (of_family f cs) → count_by (same_bytes c.family) (f ∷ fs) ≡ cond d 1 0 + count_by (same_bytes c.family) fs
    → count_by p (of_family f (c ∷ cs) ++ of_families fs (c ∷ cs)) ≡ count_by (same_bytes c.family) (f ∷ fs) * cond (p c) 1 0 + count_by p (of_family f cs ++ of_families fs cs)) [
      | true ↦ λ k n. let m = ap (λ x. x * cond (p c) 1 0) n in let z = one_times (count_by (same_bytes c.family) fs) (p c) in omega (arith, a, b, h, k, m, z)
      | false ↦ λ k n. let m = ap (λ x. x * cond (p c) 1 0) (n ∙ zero-add _) in omega (arith, a, b, h, k, m)
    ]) k n

pub one_and : (p : Cell → Bool) (c : Cell) (fs : List (List ℕ)) (cs : List Cell) → count_by p (of_families fs cs) ≡ count_by p cs → 1 * cond (p c) 1 0 + count_by p (of_families fs cs) ≡ count_by p (c ∷ cs)
one_and p c fs cs h = let z = count-cons p c cs in (elim (p c) as (λ b. count_by p (c ∷ cs) ≡ cond b 1 0 + count_by p cs → 1 * cond b 1 0 + count_by p (of_families fs cs) ≡ count_by p (c ∷ cs)) [
  | true ↦ λ z. omega (arith, z, h)
  | false ↦ λ z. omega (arith, z, h)
]) z

pub families-count : (p : Cell → Bool) (fs : List (List ℕ)) (cs : List Cell) → ((c : Cell) → Member c cs → count_by (same_bytes c.family) fs ≡ 1) → count_by p (of_families fs cs) ≡ count_by p cs
families-count p fs [] h = ap (count_by p) (none-families fs)
families-count p fs (c ∷ cs) h = families-cons p fs c cs ∙ ap (λ n. n * cond (p c) 1 0 + count_by p (of_families fs cs)) (h c (inl refl)) ∙ one_and p c fs cs (families-count p fs cs (λ d i. h d (inr i)))

pub has-member : (c : Cell) (cs : List Cell) → Member c cs → has_family cs c.family ≡ true
has-member c [] i = elim i [ ]
has-member c (d ∷ cs) (inl e) = ap (λ (x : Cell). same_bytes c.family x.family || has_family cs c.family) e ∙ ap (λ b. b || has_family cs c.family) (same_bytes-self c.family)
has-member c (d ∷ cs) (inr i) = (elim (same_bytes c.family d.family) as (λ b. (b || has_family cs c.family) ≡ true) [ true ↦ refl | false ↦ has-member c cs i ])

-- the cells of each family of some cells are those cells
pub families-same : (cs : List Cell) → Same (of_families (families_in cs) cs) cs
families-same cs = record { at = λ p. families-count p (families_in cs) cs (λ c i. family-once cs c.family ∙ ap ones (has-member c cs i)) }
