-- The first place at or after the least that may lie below a directory says whether a file stands below it.
use Rattle.std.proofs.Common.{◌≡◌, ℕ, ◌≤◌, Bool, true, false, List, [], ◌∷◌, ◌++◌, codes, Option, Some, None, refl, sym, ap, subst, ◌∙◌, inl, inr, append_assoc, arith, nat_cmp, nat_eq, rules}
use Rattle.std.specs.Prelude.{◌↔◌}
use Rattle.std.specs.Cmp.{IsTotalOrder}
use Rattle.std.specs.Cmp.Rules.{comparing}
use Rattle.std.specs.FinMap.{contains_key}
use Rattle.std.specs.List.{AllByRecursion, join_with_byte, starts_with}
use Rattle.std.specs.Ordering.{is_le, ordering_then}
use Rattle.std.specs.declared.cmp.Ordering.{Ordering}
use Rattle.std.specs.declared.cmp.Ordering.TheVariants.{Less, Equal, Greater}
use Rattle.std.specs.declared.ops.Bound.TheVariants.{Included, Unbounded}
use Rattle.std.specs.BTreeMap.Range.{range_contains}
use Rattle.std.proofs.lemmas.Bool.{true≢false, and_from, and_parts, cases_order, eqb-true}
use Rattle.std.proofs.lemmas.Bool.Decides.{nat_tests}
use Rattle.std.proofs.lemmas.List.{append-nil}
use Rattle.hb_cell.specs.Order.{bytes_cmp}
use Rattle.hb_grammar.specs.declared.class.Class.TheVariants.{Component}
use Rattle.hb_grammar.specs.Class.{has, AllIn}
use Rattle.hb_names.specs.Component.{IsComponent}
use Rattle.hb_layout.proofs.LawfulLemmas.{All-path}
use Rattle.ns_tree.specs.Places.{is_below}
use Rattle.ns_tree.proofs.Below.{starts_with-past}
use Rattle.reserved_map.specs.Keys.{bytes_cmp-exact}
use Rattle.reserved_map.specs.Order.{first_from}
use Rattle.reserved_map.proofs.Least.{IsFirst, first_from-least}
use Rattle.core_model.specs.Site.{spot_of, site_path}
use Rattle.core_places.specs.Below.{AreOfSites, HasBelow, least_below}
use Rattle.core_places.specs.Places.{Places}

-- ---- what stands behind a slash of a site's place

-- a byte of a component is at least -, whose code is 45
least_byte : (x : ℕ) → has Component x ≡ true → 45 ≤ x
unfolding has
least_byte x e = grind (arith, nat_tests)

slash_not : (x : ℕ) → has Component x ≡ true → x ≡ 47 → ⊥
unfolding has
slash_not x e s = true≢false (sym e ∙ ap (has Component) s)

abbrev HasFront : List ℕ → Type 0
HasFront [] = ⊥
HasFront (x ∷ xs) = 45 ≤ x

component_front : (c rest : List ℕ) → IsComponent c → HasFront (c ++ rest)
component_front [] rest h = let l = h.least in absurd (omega arith)
component_front (x ∷ c) rest h = least_byte x h.each.0

-- texts, each behind a slash
abbrev behind : List (List ℕ) → List ℕ
behind [] = []
behind (part ∷ parts) = 47 ∷ (part ++ behind parts)

join-behind : (part : List ℕ) (parts : List (List ℕ)) → join_with_byte 47 (part ∷ parts) ≡ part ++ behind parts
join-behind part [] = sym (append-nil part)
join-behind part (next ∷ parts) = ap (λ (x : List ℕ). part ++ 47 ∷ x) (join-behind next parts)

after_slash : (c : List ℕ) (cs : List (List ℕ)) (front back : List ℕ) → AllIn Component c → AllByRecursion IsComponent cs → c ++ behind cs ≡ front ++ 47 ∷ back → HasFront back
after_slash [] [] [] back h k e = absurd (cc)
after_slash [] [] (y ∷ front) back h k e = absurd (cc)
after_slash [] (d ∷ cs) [] back h k e = let z : d ++ behind cs ≡ back = (cc) in subst HasFront z (component_front d (behind cs) k.0)
after_slash [] (d ∷ cs) (y ∷ front) back h k e = let z : d ++ behind cs ≡ front ++ 47 ∷ back = (cc) in after_slash d cs front back k.0.each k.1 z
after_slash (x ∷ c) cs [] back h k e = let z : x ≡ 47 = (cc) in absurd (slash_not x h.0 z)
after_slash (x ∷ c) cs (y ∷ front) back h k e = let z : c ++ behind cs ≡ front ++ 47 ∷ back = (cc) in after_slash c cs front back h.1 k z

joined_front : (cs : List (List ℕ)) (front back : List ℕ) → AllByRecursion IsComponent cs → join_with_byte 47 cs ≡ front ++ 47 ∷ back → HasFront back
joined_front [] [] back h e = absurd (cc)
joined_front [] (y ∷ front) back h e = absurd (cc)
joined_front (c ∷ cs) front back h e = after_slash c cs front back h.0.each h.1 (sym (join-behind c cs) ∙ e)

-- ---- the order of texts

itself : (x : ℕ) → nat_cmp x x ≡ Equal
itself x = grind (arith, nat_tests)

le_append : (p x y : List ℕ) → is_le (bytes_cmp x y) ≡ true → is_le (bytes_cmp (p ++ x) (p ++ y)) ≡ true
le_append [] x y h = h
le_append (a ∷ p) x y h = ap (λ r. is_le (ordering_then r (bytes_cmp (p ++ x) (p ++ y)))) (itself a) ∙ le_append p x y h

le_shorter : (p x q : List ℕ) → is_le (bytes_cmp (p ++ x) q) ≡ true → is_le (bytes_cmp p q) ≡ true
le_shorter [] x [] h = refl
le_shorter [] x (b ∷ q) h = refl
le_shorter (a ∷ p) x [] h = absurd (true≢false (sym h))
le_shorter (a ∷ p) x (b ∷ q) h = (elim (nat_cmp a b) as (λ r. is_le (ordering_then r (bytes_cmp (p ++ x) q)) ≡ true → is_le (ordering_then r (bytes_cmp p q)) ≡ true) [
  | Less ↦ λ k. refl
  | Equal ↦ λ k. le_shorter p x q k
  | Greater ↦ λ k. absurd (true≢false (sym k))
]) h

least_front : (x : ℕ) (back : List ℕ) → 45 ≤ x → is_le (bytes_cmp (codes "-") (x ∷ back)) ≡ true
least_front x back h = elim (cases_order 45 x) as (λ _. is_le (bytes_cmp (codes "-") (x ∷ back)) ≡ true) [
  | inl same ↦ subst (λ z. is_le (bytes_cmp (codes "-") (z ∷ back)) ≡ true) same (dash back)
  | inr (inl l) ↦ let below : nat_cmp 45 x ≡ Less = grind (arith, nat_tests) in ap (λ r. is_le (ordering_then r (bytes_cmp [] back))) below
  | inr (inr l) ↦ absurd (omega arith)
]
  where
    dash : (back : List ℕ) → is_le (bytes_cmp (codes "-") (45 ∷ back)) ≡ true
    dash [] = refl
    dash (y ∷ back) = refl

least_le : (dir back : List ℕ) → HasFront back → is_le (bytes_cmp (least_below dir) (dir ++ 47 ∷ back)) ≡ true
least_le dir [] h = absurd h
least_le dir (x ∷ back) h = le_append dir (codes "/-") (47 ∷ x ∷ back) (least_front x back h)

-- ---- below a directory

back_of : (dir place : List ℕ) → is_below dir place ≡ true → (back : List ℕ) × (place ≡ dir ++ 47 ∷ back)
unfolding is_below
back_of [] [] e = absurd (true≢false (sym e))
back_of [] (y ∷ place) e = let s : 47 ≡ y = eqb-true 47 y (and_parts (nat_eq 47 y) _ e).0 in (place, ap (λ z. z ∷ place) (sym s))
back_of (x ∷ dir) [] e = absurd (true≢false (sym e))
back_of (x ∷ dir) (y ∷ place) e =
    let parts = and_parts (nat_eq x y) _ e in
    let s : x ≡ y = eqb-true x y parts.0 in
    let r = back_of dir place parts.1 in
    (r.0, λ i. sym s i ∷ r.1 i)

-- the least text is not after a place of a site below the directory
least_first : (m : Places) (dir : List ℕ) → AreOfSites m → (x : HasBelow m dir) → is_le (bytes_cmp (least_below dir) x.place) ≡ true
least_first m dir sites x =
    let b = back_of dir x.place x.below in
    let w = sites x.place x.stands in
    subst (λ (q : List ℕ). is_le (bytes_cmp (least_below dir) q) ≡ true) (sym b.1)
    (least_le dir b.0 (joined_front (site_path w.site) dir b.0 (All-path (spot_of w.site) w.spelled) (w.text ∙ b.1)))

-- what stands between that text and a place below lies below too
between : (dir k q : List ℕ) → is_le (bytes_cmp (least_below dir) k) ≡ true → is_le (bytes_cmp k q) ≡ true → is_below dir q ≡ true → is_below dir k ≡ true
unfolding is_below
between dir k q l h b = by (starts_with nat_eq k (dir ++ codes "/")) refl
  where
    from : is_le (bytes_cmp (dir ++ codes "/") k) ≡ true
    from = le_shorter (dir ++ codes "/") (codes "-") k (ap (λ (x : List ℕ). is_le (bytes_cmp x k)) (append_assoc dir (codes "/") (codes "-")) ∙ l)

    past : starts_with nat_eq k (dir ++ codes "/") ≡ false → (r : Ordering) → bytes_cmp k q ≡ r → is_le r ≡ true → starts_with nat_eq k (dir ++ codes "/") ≡ true
    past e Less i j = absurd (true≢false (sym b ∙ starts_with-past (dir ++ codes "/") k q from e i))
    past e Equal i j = subst (λ (x : List ℕ). starts_with nat_eq x (dir ++ codes "/") ≡ true) (sym (bytes_cmp-exact k q i)) b
    past e Greater i j = absurd (true≢false (sym j))

    by : (s : Bool) → starts_with nat_eq k (dir ++ codes "/") ≡ s → starts_with nat_eq k (dir ++ codes "/") ≡ true
    by true e = e
    by false e = past e (bytes_cmp k q) refl h

-- ---- the first place

total : IsTotalOrder bytes_cmp
total = search (comparing, rules)

-- whether what is first lies below a directory
abbrev passes : List ℕ → Option (List ℕ × Unit {0}) → Bool
passes dir None = false
passes dir (Some e) = is_below dir e.0

told : (m : Places) (dir : List ℕ) → AreOfSites m → (o : Option (List ℕ × Unit {0})) → IsFirst bytes_cmp (contains_key m) (range_contains bytes_cmp (Included (least_below dir)) Unbounded) o → (passes dir o ≡ true) ↔ HasBelow m dir
told m dir sites None f = (
  λ e. absurd (true≢false (sym e)),
  λ x. absurd (true≢false (sym (and_from _ true (least_first m dir sites x) refl) ∙ f x.place x.stands)),
)
told m dir sites (Some e) f = (
  λ b. record { place = e.0; stands = f.stands; below = b },
  λ x. between dir e.0 x.place (and_parts _ true f.passes).0 (f.least x.place x.stands (and_from _ true (least_first m dir sites x) refl)) x.below,
)

first_below : (m : Places) (dir : List ℕ) → AreOfSites m → (passes dir (first_from bytes_cmp (Included (least_below dir)) m) ≡ true) ↔ HasBelow m dir
first_below m dir sites = told m dir sites (first_from bytes_cmp (Included (least_below dir)) m) (first_from-least total bytes_cmp-exact (Included (least_below dir)) m)

-- the same where the text to begin at, and the first place, are known by equations
first_told : (m : Places) (dir start : List ℕ) (o : Option (List ℕ × Unit {0})) → AreOfSites m → start ≡ least_below dir → o ≡ first_from bytes_cmp (Included start) m → (passes dir o ≡ true) ↔ HasBelow m dir
first_told m dir start o sites e f = subst (λ (x : Option (List ℕ × Unit {0})). (passes dir x ≡ true) ↔ HasBelow m dir) (ap (λ (x : List ℕ). first_from bytes_cmp (Included x) m) (sym e) ∙ sym f) (first_below m dir sites)

pub none_below : (m : Places) (dir start : List ℕ) → AreOfSites m → start ≡ least_below dir → None ≡ first_from bytes_cmp (Included start) m → (false ≡ true) ↔ HasBelow m dir
none_below m dir start sites e f = first_told m dir start None sites e f

begins-is_below : (dir place : List ℕ) → starts_with nat_eq place (dir ++ codes "/") ≡ is_below dir place
unfolding is_below
begins-is_below dir place = refl

pub some_below : (m : Places) (dir start : List ℕ) (e : List ℕ × Unit {0}) (b : Bool) → AreOfSites m → start ≡ least_below dir → Some e ≡ first_from bytes_cmp (Included start) m → b ≡ starts_with nat_eq e.0 (dir ++ codes "/") → (b ≡ true) ↔ HasBelow m dir
some_below m dir start e b sites s f i = subst (λ (x : Bool). (x ≡ true) ↔ HasBelow m dir) (sym (i ∙ begins-is_below dir e.0)) (first_told m dir start (Some e) sites s f)
