-- Entries of maps that are made of lists, and items that a filter gives.
use Rattle.std.proofs.Common.{◌≡◌, ◌⊎◌, ℕ, true, false, cond, List, [], ◌∷◌, Option, Some, None, refl, sym, ap, ◌∙◌, subst, inl, inr}
use Rattle.std.specs.Prelude.{map, option_map, filter_map}
use Rattle.std.specs.List.{cons_option}
use Rattle.std.specs.FinMap.{get, find, from_entries, get-from_entries}
use Rattle.std.specs.Ordering.{eq_by_cmp}
use Rattle.std.specs.Cmp.Lexicographic.{texts_ties, nat_list_cmp_total}
use Rattle.cell_sight.specs.Member.{Member}
use Rattle.hb_cell.specs.Order.{bytes_cmp}
use Rattle.core_sound.proofs.Lists.{eq_name}
use Rattle.core_sound.proofs.Tests.{cond_cases, same_bytes-self}

-- ---- maps that are made of lists

find-member : {X : Type 0} (es : List (List ℕ × X)) (q : List ℕ) (x : X) → find bytes_cmp q es ≡ Some x → Member (q, x) es
find-member [] q x e = absurd (cc)
find-member (y ∷ es) q x e = cond_cases (eq_by_cmp bytes_cmp q y.0) (Some y.1) (find bytes_cmp q es) (Some x) e
    (λ d i. let z : y.1 ≡ x = (cc) in inl (λ j. (sym (eq_name q y.0 d) j, z j)))
    (λ d i. inr (find-member es q x i))

tied : (q : List ℕ) → eq_by_cmp bytes_cmp q q ≡ true
tied q = sym (texts_ties q q) ∙ same_bytes-self q

find-missing : {X : Type 0} (es : List (List ℕ × X)) (q : List ℕ) (x : X) → Member (q, x) es → find bytes_cmp q es ≡ None → ⊥
find-missing [] q x i e = i
find-missing (y ∷ es) q x (inl i) e = cond_cases (eq_by_cmp bytes_cmp q y.0) (Some y.1) (find bytes_cmp q es) None e
    (λ d j. absurd (cc))
    (λ d j. let z : true ≡ false = sym (ap (λ (y : List ℕ × _). eq_by_cmp bytes_cmp q y.0) i ∙ tied q) ∙ d in absurd (cc))
find-missing (y ∷ es) q x (inr i) e = cond_cases (eq_by_cmp bytes_cmp q y.0) (Some y.1) (find bytes_cmp q es) None e (λ d j. absurd (cc)) (λ d j. find-missing es q x i j)

entered : {X : Type 0} (es : List (List ℕ × X)) (q : List ℕ) (x : X) → get (from_entries {R = bytes_cmp} es) q ≡ Some x → Member (q, x) es
entered es q x e = find-member es q x (sym (get-from_entries nat_list_cmp_total es q) ∙ e)

agree : {X : Type 0} (es : List (List ℕ × X)) (q : List ℕ) (g o : Option X) → get (from_entries {R = bytes_cmp} es) q ≡ g → ((x : X) → Member (q, x) es → o ≡ Some x) → ((x : X) → o ≡ Some x → Member (q, x) es) → g ≡ o
agree es q None None e there back = refl
agree es q None (Some x) e there back = absurd (find-missing es q x (back x refl) (sym (get-from_entries nat_list_cmp_total es q) ∙ e))
agree es q (Some y) o e there back = sym (there y (entered es q y e))

-- the value of a name is that of all its entries
pub entered_is : {X : Type 0} (es : List (List ℕ × X)) (q : List ℕ) (o : Option X) → ((x : X) → Member (q, x) es → o ≡ Some x) → ((x : X) → o ≡ Some x → Member (q, x) es) → get (from_entries {R = bytes_cmp} es) q ≡ o
entered_is es q o there back = agree es q (get (from_entries {R = bytes_cmp} es) q) o refl there back

find-map : {X Y : Type 0} (f : X → Y) (es : List (List ℕ × X)) (q : List ℕ) → find bytes_cmp q (map (λ (x : List ℕ × X). (x.0, f x.1)) es) ≡ option_map f (find bytes_cmp q es)
find-map f [] q = refl
find-map f (y ∷ es) q = elim (eq_by_cmp bytes_cmp q y.0) as (λ b. cond b (Some (f y.1)) (find bytes_cmp q (map (λ (x : List ℕ × _). (x.0, f x.1)) es)) ≡ option_map f (cond b (Some y.1) (find bytes_cmp q es))) [
  | true ↦ refl
  | false ↦ find-map f es q
]

-- the entries with their values changed
pub entered-map : {X Y : Type 0} (f : X → Y) (es : List (List ℕ × X)) (q : List ℕ)
    → get (from_entries {R = bytes_cmp} (map (λ (x : List ℕ × X). (x.0, f x.1)) es)) q ≡ option_map f (get (from_entries {R = bytes_cmp} es) q)
entered-map f es q = get-from_entries nat_list_cmp_total (map (λ (x : List ℕ × _). (x.0, f x.1)) es) q ∙ find-map f es q ∙ ap (option_map f) (sym (get-from_entries nat_list_cmp_total es q))

-- ---- items that a filter gives

kept_from : {X Y : Type 0} (h : X → Option Y) (z : X) (o : Option Y) (rest : List Y) (y : Y) → h z ≡ o → Member y (cons_option o rest) → (h z ≡ Some y) ⊎ Member y rest
kept_from h z None rest y e m = inr m
kept_from h z (Some w) rest y e (inl m) = inl (e ∙ ap Some m)
kept_from h z (Some w) rest y e (inr m) = inr m

pub from_filter : {X Y : Type 0} (h : X → Option Y) (xs : List X) (y : Y) → Member y (filter_map h xs) → (x : X) × Member x xs × (h x ≡ Some y)
from_filter h [] y m = absurd m
from_filter h (z ∷ xs) y m = elim (kept_from h z (h z) (filter_map h xs) y refl m) [
  | inl e ↦ (z, inl refl, e)
  | inr k ↦ (let r = from_filter h xs y k in (r.0, inr r.1, r.2))
]

behind : {Y : Type 0} (o : Option Y) (rest : List Y) (y : Y) → Member y rest → Member y (cons_option o rest)
behind None rest y m = m
behind (Some w) rest y m = inr m

pub to_filter : {X Y : Type 0} (h : X → Option Y) (xs : List X) (x : X) (y : Y) → Member x xs → h x ≡ Some y → Member y (filter_map h xs)
to_filter h [] x y m e = m
to_filter h (z ∷ xs) x y (inl i) e = subst (λ o. Member y (cons_option o (filter_map h xs))) (sym (ap h i ∙ e)) (inl refl)
to_filter h (z ∷ xs) x y (inr i) e = behind (h z) (filter_map h xs) y (to_filter h xs x y i e)
