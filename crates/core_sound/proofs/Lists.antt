-- Members of lists, and names in maps.
use Rattle.std.proofs.Common.{◌≡◌, ◌⊎◌, ℕ, ◌||◌, Bool, true, false, not, cond, List, [], ◌∷◌, ◌++◌, Option, Some, None, refl, sym, ap, ◌∙◌, inl, inr}
use Rattle.std.specs.Prelude.{map, is_some, option_map}
use Rattle.std.specs.List.{list_any, find}
use Rattle.std.specs.FinMap.{get, keys, insert, remove, contains_key-keys, get-insert, get-remove}
use Rattle.std.specs.Ordering.{eq_by_cmp}
use Rattle.std.specs.Cmp.Lexicographic.{texts_ties, nat_list_cmp_total}
use Rattle.hb_cell.specs.Order.{bytes_cmp}
use Rattle.hb_layout.specs.declared.base.Base.{Base}
use Rattle.hb_cell.specs.Order.{same_bytes}
use Rattle.plain_model.specs.Names.{Names}
use Rattle.cell_sight.specs.Member.{Member}
use Rattle.core_model.specs.Keys.{same_base}
use Rattle.core_model.specs.PassChanges.{is_one_of, without_name}
use Rattle.core_sound.proofs.Tests.{cond_cases, same_bytes-true, same_base-self}

pub or_left : (a b : Bool) → a ≡ true → (a || b) ≡ true
or_left true b e = refl
or_left false b e = absurd (cc)

pub or_right : (a b : Bool) → b ≡ true → (a || b) ≡ true
or_right true b e = refl
or_right false b e = e

pub either : {P : Type 0} (a b : Bool) → (a || b) ≡ true → (a ≡ true → P) → (b ≡ true → P) → P
either true b e f g = f refl
either false b e f g = g e

pub map_some : {A B : Type 0} (f : A → B) (o : Option A) (y : B) → option_map f o ≡ Some y → (x : A) × (o ≡ Some x) × (f x ≡ y)
map_some f (Some x) y e = (x, refl, (cc))
map_some f None y e = absurd (cc)

-- ---- members

pub member-map : {A B : Type 0} (f : A → B) (x : A) (xs : List A) → Member x xs → Member (f x) (map f xs)
member-map f x [] i = i
member-map f x (y ∷ ys) (inl e) = inl (ap f e)
member-map f x (y ∷ ys) (inr i) = inr (member-map f x ys i)

pub member-front : {X : Type 0} (x : X) (xs ys : List X) → Member x xs → Member x (xs ++ ys)
member-front x [] ys i = absurd i
member-front x (y ∷ xs) ys (inl e) = inl e
member-front x (y ∷ xs) ys (inr i) = inr (member-front x xs ys i)

pub member-behind : {X : Type 0} (x : X) (xs ys : List X) → Member x ys → Member x (xs ++ ys)
member-behind x [] ys i = i
member-behind x (y ∷ xs) ys i = inr (member-behind x xs ys i)

pub member-append : {X : Type 0} (x : X) (xs ys : List X) → Member x (xs ++ ys) → Member x xs ⊎ Member x ys
member-append x [] ys i = inr i
member-append x (y ∷ xs) ys (inl e) = inl (inl e)
member-append x (y ∷ xs) ys (inr i) = elim (member-append x xs ys i) [ inl k ↦ inl (inr k) | inr k ↦ inr k ]

pub member-find : {X : Type 0} (p : X → Bool) (xs : List X) (x : X) → find p xs ≡ Some x → Member x xs
member-find p [] x e = absurd (cc)
member-find p (y ∷ ys) x e = cond_cases (p y) (Some y) (find p ys) (Some x) e (λ d i. inl (cc)) (λ d i. inr (member-find p ys x i))

pub one_of-member : (b : Base) (bs : List Base) → Member b bs → is_one_of bs b ≡ true
one_of-member b [] i = absurd i
one_of-member b (c ∷ bs) (inl e) = or_left _ _ (ap (same_base b) e ∙ same_base-self b)
one_of-member b (c ∷ bs) (inr i) = or_right (same_base b c) _ (one_of-member b bs i)

-- ---- names

pub eq_name : (n m : List ℕ) → eq_by_cmp bytes_cmp n m ≡ true → n ≡ m
eq_name n m e = same_bytes-true n m (texts_ties n m ∙ e)

named-member : (n : List ℕ) (ns : List (List ℕ)) → list_any (eq_by_cmp bytes_cmp n) ns ≡ true → Member n ns
named-member n [] e = absurd (cc)
named-member n (m ∷ ms) e = either (eq_by_cmp bytes_cmp n m) _ e (λ d. inl (sym (eq_name n m d))) (λ d. inr (named-member n ms d))

pub key-member : {X : Type 0} (m : Names X) (n : List ℕ) (x : X) → get m n ≡ Some x → Member n (keys m)
key-member m n x e = named-member n (keys m) (sym (contains_key-keys m n) ∙ ap is_some e)

pub get-put : {X P : Type 0} (m : Names X) (k : List ℕ) (v : X) (q : List ℕ) (x : X) → get (insert m k v) q ≡ Some x → (q ≡ k → v ≡ x → P) → (get m q ≡ Some x → P) → P
get-put m k v q x e f g = cond_cases (eq_by_cmp bytes_cmp q k) (Some v) (get m q) (Some x) (sym (get-insert nat_list_cmp_total m k v q) ∙ e) (λ d i. f (eq_name q k d) (cc)) (λ d i. g i)

pub get-taken : {X P : Type 0} (m : Names X) (k q : List ℕ) (x : X) → get (remove m k) q ≡ Some x → ((eq_by_cmp bytes_cmp q k ≡ false) → get m q ≡ Some x → P) → P
get-taken m k q x e g = cond_cases (eq_by_cmp bytes_cmp q k) None (get m q) (Some x) (sym (get-remove nat_list_cmp_total m k q) ∙ e) (λ d i. absurd (cc)) (λ d i. g d i)

pub member-without : (n k : List ℕ) (ns : List (List ℕ)) → same_bytes n k ≡ false → Member n ns → Member n (without_name k ns)
member-without n k [] d i = i
member-without n k (m ∷ ms) d (inl e) = (elim (same_bytes m k) as (λ b. same_bytes m k ≡ b → Member n (cond (not b) (m ∷ without_name k ms) (without_name k ms))) [
  | true ↦ λ j. let z : true ≡ false = sym j ∙ ap (λ x. same_bytes x k) e ∙ d in absurd (cc)
  | false ↦ λ j. inl e
]) refl
member-without n k (m ∷ ms) d (inr i) = elim (same_bytes m k) as (λ b. Member n (cond (not b) (m ∷ without_name k ms) (without_name k ms))) [ true ↦ member-without n k ms d i | false ↦ inr (member-without n k ms d i) ]
