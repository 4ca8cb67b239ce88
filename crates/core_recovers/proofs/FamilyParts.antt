-- Entries whose families have the same entries have the same cells.
use Rattle.std.proofs.Common.{◌≡◌, ℕ, true, false, cond, List, [], ◌∷◌, ◌++◌, refl, sym, ap, ◌∙◌, subst, arith}
use Rattle.std.proofs.lemmas.List.{append_assoc}
use Rattle.std.proofs.lemmas.List.Elements.{filter-append}
use Rattle.cell_sight.specs.Same.{Same}
use Rattle.cell_sight.proofs.Counts.{count-append, same-refl, same-trans, same-append, same-equal}
use Rattle.hb_cell.specs.declared.cell.Cell.{Cell}
use Rattle.hb_cell.specs.Order.{same_bytes}
use Rattle.core_model.specs.declared.entry.Entry.{Entry}
use Rattle.core_model.specs.Entries.{Made, base_of, cells_of, cells_in}
use Rattle.core_model.specs.ListGuards.{in_family}
use Rattle.core_sound.proofs.Tests.{same_bytes-self, same_bytes-true}

-- the entries before the first of a family, and those behind it
found_part : (family : List ℕ) (e : Entry) (rest xs : List Entry) → in_family family xs ≡ e ∷ rest
    → (front : List Entry) × (behind : List Entry) × (xs ≡ front ++ (e ∷ behind)) × (in_family family front ≡ []) × (in_family family behind ≡ rest)
found_part family e rest [] i = absurd (cc)
found_part family e rest (x ∷ xs) i = (elim (same_bytes (base_of x).family family) as (λ b. same_bytes (base_of x).family family ≡ b → cond b (x ∷ in_family family xs) (in_family family xs) ≡ e ∷ rest
    → (front : List Entry) × (behind : List Entry) × (x ∷ xs ≡ front ++ (e ∷ behind)) × (in_family family front ≡ []) × (in_family family behind ≡ rest)) [
      | true ↦ λ d j. let p : x ≡ e = (cc) in let q : in_family family xs ≡ rest = (cc) in ([], xs, ap (λ y. y ∷ xs) p, refl, q)
      | false ↦ λ d j. let w = found_part family e rest xs j in
          (x ∷ w.0, w.1, ap (λ ys. x ∷ ys) w.2, ap (λ b. cond b (x ∷ in_family family w.0) (in_family family w.0)) d ∙ w.3, w.4)
    ]) refl i

cells-append : (made : Made) (xs ys : List Entry) → cells_in made (xs ++ ys) ≡ cells_in made xs ++ cells_in made ys
cells-append made [] ys = refl
cells-append made (x ∷ xs) ys = ap (λ cs. cells_of made x ++ cs) (cells-append made xs ys) ∙ sym (append_assoc (cells_of made x) (cells_in made xs) (cells_in made ys))

same-moved : (xs ys zs : List Cell) → Same (xs ++ (ys ++ zs)) (ys ++ (xs ++ zs))
same-moved xs ys zs = record {
  at = λ p. let a = count-append p xs (ys ++ zs) in let b = count-append p ys zs in let c = count-append p ys (xs ++ zs) in let d = count-append p xs zs in grind (arith);
}

-- the other families of what is left
rest_part : (family : List ℕ) (e : Entry) (rest front behind : List Entry) → in_family family (e ∷ rest) ≡ in_family family (front ++ (e ∷ behind)) → in_family (base_of e).family front ≡ [] → in_family (base_of e).family behind ≡ in_family (base_of e).family rest
    → in_family family rest ≡ in_family family (front ++ behind)
rest_part family e rest front behind i f g = (elim (same_bytes (base_of e).family family) as (λ b. same_bytes (base_of e).family family ≡ b
    → cond b (e ∷ in_family family rest) (in_family family rest) ≡ in_family family front ++ cond b (e ∷ in_family family behind) (in_family family behind) → in_family family rest ≡ in_family family (front ++ behind)) [
      | true ↦ λ d j. let k = same_bytes-true (base_of e).family family d in
          subst (λ v. in_family v rest ≡ in_family v (front ++ behind)) k (sym (filter-append (λ x. same_bytes (base_of x).family (base_of e).family) front behind ∙ ap (λ es. es ++ in_family (base_of e).family behind) f ∙ g))
      | false ↦ λ d j. j ∙ sym (filter-append (λ x. same_bytes (base_of x).family family) front behind)
    ]) refl (i ∙ filter-append (λ x. same_bytes (base_of x).family family) front (e ∷ behind))

no_part : (made : Made) (xs : List Entry) → ((family : List ℕ) → in_family family [] ≡ in_family family xs) → [] ≡ xs
no_part made [] k = refl
no_part made (x ∷ xs) k = let z : [] ≡ x ∷ in_family (base_of x).family xs = k (base_of x).family ∙ ap (λ b. cond b (x ∷ in_family (base_of x).family xs) (in_family (base_of x).family xs)) (same_bytes-self (base_of x).family) in absurd (cc)

pub same_parts : (made : Made) (es xs : List Entry) → ((family : List ℕ) → in_family family es ≡ in_family family xs) → Same (cells_in made es) (cells_in made xs)
same_parts made [] xs k = same-equal (ap (cells_in made) (no_part made xs k))
same_parts made (e ∷ es) xs k =
    let family = (base_of e).family in
    let own : in_family family (e ∷ es) ≡ e ∷ in_family family es = ap (λ b. cond b (e ∷ in_family family es) (in_family family es)) (same_bytes-self family) in
    let w = found_part family e (in_family family es) xs (sym (k family) ∙ own) in
    let left : (v : List ℕ) → in_family v es ≡ in_family v (w.0 ++ w.1) = λ v. rest_part v e es w.0 w.1 (k v ∙ ap (in_family v) w.2) w.3 w.4 in
    same-trans (same-append (same-refl (cells_of made e)) (same_parts made es (w.0 ++ w.1) left))
    (same-trans (same-equal (ap (λ cs. cells_of made e ++ cs) (cells-append made w.0 w.1)))
    (same-trans (same-moved (cells_of made e) (cells_in made w.0) (cells_in made w.1))
    (same-equal (sym (ap (cells_in made) w.2 ∙ cells-append made w.0 (e ∷ w.1))))))
