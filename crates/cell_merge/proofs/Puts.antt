-- The puts that are held, as cells come in key order.
use Rattle.std.proofs.Common.{◌≡◌, ◌⊎◌, ℕ, ◌+◌, ◌-◌, ◌<◌, ◌≤◌, min, Bool, true, false, cond, not, ◌&&◌, ◌||◌, List, [], ◌∷◌, ◌++◌, length, Option, Some, None, inl, inr, refl, sym, ap, ◌∙◌, subst, arith, length-append}
use Rattle.std.specs.Prelude.{filter, count_by, nat_lt, slice_get}
use Rattle.std.specs.List.{list_any}
use Rattle.std.proofs.Math.Seq.{get_or-append_seam}
use Rattle.std.proofs.lemmas.Bool.{ltb-true, ltb-false, lt-ltb, leb-true, le-leb, eq-eqb, eqb-true}
use Rattle.std.proofs.lemmas.Option.{slice_get-get_or}
use Rattle.hb_cell.specs.declared.cell.Cell.{Cell}
use Rattle.hb_cell.specs.declared.kind.Kind.{Kind}
use Rattle.hb_cell.specs.declared.kind.Kind.TheVariants.{Put, Delete, DeleteColumn, DeleteFamily}
use Rattle.hb_cell.specs.Hiding.{hides, hides_as, same_family, same_column}
use Rattle.cell_sight.specs.Member.{Member}
use Rattle.cell_sight.specs.Visible.{is_put, same_version, is_newer, versions_of, firsts, newest}
use Rattle.cell_sight.proofs.Counts.{count-append, count-cons, count-none}
use Rattle.cell_sight.proofs.Members.{of_filter, all_by}
use Rattle.cell_merge.specs.Kept.{passes, is_hidden, last_of, alive, wider}
use Rattle.cell_merge.proofs.Places.{Ahead, in_column, column_family, column_back, column_on, family_on, between_column, ts_falls}
use Rattle.cell_merge.proofs.Streaming.{filter-same, any-push, is_wide, by_family, by_column, is_candidate, candidates, survives, winners}
use Rattle.cell_merge.proofs.Winners.{AllAhead, has_version, wins, winners-push}
use Rattle.cell_merge.proofs.Marks.{ahead_left, member_left, family_wider, family_covers}
use Rattle.cell_sight.proofs.Truths.{left, right, both, turn, turned, never, equal, any_some, some_any}

-- ---- lists

count-same : {X : Type 0} (f g : X → Bool) (xs : List X) → ((x : X) → Member x xs → f x ≡ g x) → count_by f xs ≡ count_by g xs
count-same f g [] h = refl
count-same f g (x ∷ xs) h = count-cons f x xs ∙ (let e = h x (inl refl) in let i = count-same f g xs (λ y m. h y (inr m)) in λ t. cond (e t) 1 0 + i t) ∙ sym (count-cons g x xs)

pub member_parts : {X : Type 0} (x y : X) (xs : List X) → Member x (xs ++ y ∷ []) → Member x xs ⊎ (y ≡ x)
member_parts x y [] (inl e) = inr e
member_parts x y [] (inr m) = absurd m
member_parts x y (z ∷ zs) (inl e) = inl (inl e)
member_parts x y (z ∷ zs) (inr m) = elim (member_parts x y zs m) [ inl k ↦ inl (inr k) | inr e ↦ inr e ]

pub append-none : {X : Type 0} (xs : List X) → xs ++ [] ≡ xs
append-none [] = refl
append-none (x ∷ xs) = ap (λ ys. x ∷ ys) (append-none xs)

pub last_push : (cells : List Cell) (c : Cell) → last_of (cells ++ c ∷ []) ≡ Some c
last_push cells c =
    let e : length (cells ++ c ∷ []) - 1 ≡ length cells = omega (arith, length-append cells (c ∷ [])) in
    let l : length cells < length (cells ++ c ∷ []) = omega (arith, length-append cells (c ∷ [])) in
    ap (slice_get (cells ++ c ∷ [])) e ∙ slice_get-get_or (cells ++ c ∷ []) (length cells) c l ∙ ap (λ x. Some x) (get_or-append_seam cells c [] c)

firsts_in : (d : Cell) (xs : List Cell) → Member d (firsts xs) → Member d xs
firsts_in d [] m = m
firsts_in d (x ∷ xs) (inl e) = inl e
firsts_in d (x ∷ xs) (inr m) = let k = of_filter (λ d. not (same_version x d)) d (firsts xs) m in inr (firsts_in d xs k.0)

pub winners_in : (d : Cell) (cells : List Cell) → Member d (winners cells) → Member d cells
winners_in d cells m = (of_filter (is_candidate cells) d cells (firsts_in d (candidates cells) m)).0

-- ---- columns

abbrev pub in_column_of : List Cell → Cell → ℕ
in_column_of cells e = count_by (λ d. same_column d e) cells

pub same_count : (cells : List Cell) (c e : Cell) → same_column c e ≡ true → in_column_of cells e ≡ in_column_of cells c
same_count cells c e h = count-same (λ d. same_column d e) (λ d. same_column d c) cells
    (λ d m. equal _ _ (λ k. column_on d e c k (column_back c e h)) (λ k. column_on d c e k h))

pub count_push : (p : Cell → Bool) (xs : List Cell) (c : Cell) → count_by p (xs ++ c ∷ []) ≡ count_by p xs + cond (p c) 1 0
count_push p xs c = let e = count-append p xs (c ∷ []) in let f = count-cons p c [] in let z = none p in omega arith
  where
    none : (p : Cell → Bool) → count_by p [] ≡ 0
    none p = refl

-- cells of a column that a later one has left
pub none_left : (cells ws : List Cell) (c e : Cell) → ((d : Cell) → Member d ws → Member d cells) → AllAhead cells c → Ahead c e → same_column c e ≡ false
    → in_column_of ws e ≡ 0
none_left cells ws c e within a b h = count-none (λ d. same_column d e) ws (all_by (λ d. not (same_column d e)) ws (λ d m. ap not (never (same_column d e) (λ k.
    let s = between_column d c e (a d (within d m)) b k in
    let t : same_column c e ≡ true = column_on c d e (column_back d c s) k in absurd (cc)))))

pub unlike : (m n : ℕ) → m ≤ n → (n ≡ m → ⊥) → m < n
unlike m n h k = by_test (nat_lt m n) refl
  where
    by_test : (b : Bool) → nat_lt m n ≡ b → m < n
    by_test true e = ltb-true m n e
    by_test false e = let l = ltb-false m n e in absurd (k (omega arith))

-- no newer one is of the version, so all of the column are newer
pub all_newer : (ws : List Cell) (c : Cell) → AllAhead ws c → has_version ws c ≡ false → count_by (λ d. is_newer d c) ws ≡ in_column_of ws c
all_newer ws c a h = count-same (λ d. is_newer d c) (λ d. same_column d c) ws (λ d m. equal _ _ (λ k. left (same_column d c) _ k) (λ k. both _ _ k (lt-ltb c.ts d.ts (by d m k))))
  where
    by : (d : Cell) → Member d ws → same_column d c ≡ true → c.ts < d.ts
    by d m k =
        let falls = ts_falls d c k (a d m) in
        let apart : d.ts ≡ c.ts → ⊥ = λ e. (let s = some_any (λ d. same_version d c) ws d m (both _ _ k (eq-eqb d.ts c.ts e)) in absurd (cc)) in
        unlike c.ts d.ts falls apart

wide_upto : (k : Kind) (m d c : Cell) → same_column d c ≡ true → c.ts ≤ d.ts → (is_wide k && hides_as k m d) ≡ true → (is_wide k && hides_as k m c) ≡ true
wide_upto Put m d c n l h = h
wide_upto Delete m d c n l h = h
wide_upto DeleteColumn m d c n l h = h
wide_upto DeleteFamily m d c n l h =
    let upto = leb-true d.ts m.ts (right (same_family m d) _ h) in
    both _ _ (family_on m d c (left (same_family m d) _ h) (column_family d c n)) (le-leb c.ts m.ts (omega arith))

-- where a cell survives, so do those before it in its column
pub survives_before : (cells : List Cell) (c e : Cell) → same_column c e ≡ true → Ahead c e → survives cells e ≡ true → survives cells c ≡ true
survives_before cells c e s a h = ap not (never (list_any (λ m. by_family m c) cells) (λ k.
    let x = any_some (λ m. by_family m c) cells k in
    let y = some_any (λ m. by_family m e) cells x.0 x.1 (wide_upto x.0.kind x.0 c e s (ts_falls c e s a) x.2) in
    let z = turn _ h in absurd (cc)))

or_false : (b : Bool) → (b || false) ≡ b
or_false true = refl
or_false false = refl

pub survives_narrow : (cells : List Cell) (c e : Cell) → is_wide c.kind ≡ false → survives (cells ++ c ∷ []) e ≡ survives cells e
survives_narrow cells c e h = ap not (any-push (λ m. by_family m e) cells c
    ∙ ap (λ b. list_any (λ m. by_family m e) cells || (b && hides c e)) h ∙ or_false (list_any (λ m. by_family m e) cells))

or_left : (a b : Bool) → not (a || b) ≡ true → not a ≡ true
or_left true b h = h
or_left false b h = refl

pub survived : (cells : List Cell) (c e : Cell) → survives (cells ++ c ∷ []) e ≡ true → survives cells e ≡ true
survived cells c e h = or_left _ _ (ap not (sym (any-push (λ m. by_family m e) cells c)) ∙ h)

-- ---- what is held

abbrev pub ends_at : List Cell → Cell → Bool
ends_at held e = passes (λ d e. not (same_family d e)) (last_of held) e

abbrev pub shown_at : List Cell → ℕ → Cell → ℕ
shown_at held shown e = cond (passes same_column (last_of held) e) shown 0

-- the puts that are held, and the tests of the next one by them
pub record Puts (families : List (List ℕ × ℕ)) (cells held : List Cell) (shown : ℕ) (family : Option Cell) : Type 0 where
  pub shows : alive family held ≡ filter (survives cells) (newest families (winners cells))
  pub counted : (e : Cell) → AllAhead cells e → survives cells e ≡ true → shown_at held shown e ≡ min (in_column_of (winners cells) e) (versions_of families e.family)
  pub first : (e : Cell) → AllAhead cells e → survives cells e ≡ true → in_column_of (winners cells) e ≤ versions_of families e.family
      → has_version (winners cells) e ≡ passes same_version (last_of held) e
  pub apart : (e : Cell) → AllAhead cells e → ends_at held e ≡ true → (d : Cell) → Member d cells → same_family d e ≡ false
  pub one : (d e : Cell) → Member d held → ends_at held e ≡ false → same_family d e ≡ true
  pub last_in : (l : Cell) → last_of held ≡ Some l → Member l cells

pub no_puts : (families : List (List ℕ × ℕ)) → Puts families [] [] 0 None
no_puts families = record {
  shows = refl;
  counted = λ e a s. omega arith;
  first = λ e a s n. refl;
  apart = λ e a h d m. absurd m;
  one = λ d e m h. absurd m;
  last_in = λ l h. absurd (cc);
}

-- the next cell is of the family of those held, so what is apart of it is apart of them
ended : (o : Option Cell) (c e : Cell) → passes (λ d e. not (same_family d e)) o c ≡ false → passes (λ d e. not (same_family d e)) o e ≡ true → same_family c e ≡ false
ended None c e h k = absurd (cc)
ended (Some l) c e h k = never (same_family c e) (λ s.
    let t : same_family l e ≡ true = family_on l c e (turned _ h) s in let n = turn _ k in absurd (cc))

pub apart_push : (families : List (List ℕ × ℕ)) (cells held : List Cell) (shown : ℕ) (family : Option Cell) (c : Cell) → Puts families cells held shown family → ends_at held c ≡ false
    → (e : Cell) → AllAhead (cells ++ c ∷ []) e → ends_at held e ≡ true → (d : Cell) → Member d (cells ++ c ∷ []) → same_family d e ≡ false
apart_push families cells held shown family c p n e a h d m = elim (member_parts d c cells m) [
  | inl k ↦ p.apart e (ahead_left cells c e a) h d k
  | inr i ↦ ap (λ x. same_family x e) (sym i) ∙ ended (last_of held) c e n h
]

-- ---- a marker comes

pub puts_marker : (families : List (List ℕ × ℕ)) (cells held : List Cell) (shown : ℕ) (family other : Option Cell) (c : Cell) → is_put c.kind ≡ false
    → AllAhead cells c → ends_at held c ≡ false → Puts families cells held shown family
    → alive other held ≡ filter (survives (cells ++ c ∷ [])) (newest families (winners cells))
    → Puts families (cells ++ c ∷ []) held shown other
puts_marker families cells held shown family other c k o n p s =
    let lost : wins cells c ≡ false = ap (λ b. (b && not (list_any (λ m. by_column m c) cells)) && not (has_version (winners cells) c)) k in
    let same : winners (cells ++ c ∷ []) ≡ winners cells = winners-push cells c o ∙ ap (λ b. winners cells ++ cond b (c ∷ []) []) lost ∙ append-none (winners cells) in
    record {
      shows = s ∙ ap (λ ws. filter (survives (cells ++ c ∷ [])) (newest families ws)) (sym same);
      counted = λ e a t. p.counted e (ahead_left cells c e a) (survived cells c e t) ∙ ap (λ ws. min (in_column_of ws e) (versions_of families e.family)) (sym same);
      first = λ e a t l. ap (λ ws. has_version ws e) same
          ∙ p.first e (ahead_left cells c e a) (survived cells c e t) (subst (λ ws. in_column_of ws e ≤ versions_of families e.family) same l);
      apart = apart_push families cells held shown family c p n;
      one = p.one;
      last_in = λ l i. member_left l cells (c ∷ []) (p.last_in l i);
    }

-- a marker of no family
pub puts_narrow : (families : List (List ℕ × ℕ)) (cells held : List Cell) (shown : ℕ) (family : Option Cell) (c : Cell) → is_put c.kind ≡ false → is_wide c.kind ≡ false
    → AllAhead cells c → ends_at held c ≡ false → Puts families cells held shown family → Puts families (cells ++ c ∷ []) held shown family
puts_narrow families cells held shown family c k w o n p =
    puts_marker families cells held shown family family c k o n p
    (p.shows ∙ filter-same (survives cells) (survives (cells ++ c ∷ [])) (newest families (winners cells)) (λ e m. sym (survives_narrow cells c e w)))

filter-both : {X : Type 0} (f g : X → Bool) (xs : List X) → filter (λ x. f x && g x) xs ≡ filter g (filter f xs)
filter-both f g [] = refl
filter-both f g (x ∷ xs) = let i = filter-both f g xs in elim (f x) as (λ b. cond (b && g x) (x ∷ filter (λ x. f x && g x) xs) (filter (λ x. f x && g x) xs) ≡ filter g (cond b (x ∷ filter f xs) (filter f xs))) [
  | true ↦ ap (λ ys. cond (g x) (x ∷ ys) ys) i
  | false ↦ i
]

not_or : (a b : Bool) → not (a || b) ≡ (not a && not b)
not_or true b = refl
not_or false b = refl

absorbed : (a d : Bool) → (d ≡ true → a ≡ true) → (a || d) ≡ a
absorbed true d h = refl
absorbed false true h = let x = h refl in absurd (cc)
absorbed false false h = refl

replaced : (a d : Bool) → (a ≡ true → d ≡ true) → (a || d) ≡ d
replaced true true h = refl
replaced true false h = let x = h refl in absurd (cc)
replaced false d h = refl

-- of the puts of its family, the wider marker hides what either hides
wider_hides : (v : Option Cell) (c : Cell) → c.kind ≡ DeleteFamily → ((m : Cell) → v ≡ Some m → m.kind ≡ DeleteFamily) → (d : Cell) → same_family d c ≡ true
    → is_hidden (wider v c) d ≡ (is_hidden v d || hides c d)
wider_hides None c k f d s = refl
wider_hides (Some m) c k f d s = by (is_hidden (Some m) c) refl
  where
    by : (b : Bool) → is_hidden (Some m) c ≡ b → is_hidden (cond b (Some m) (Some c)) d ≡ (hides m d || hides c d)
    by true i = sym (absorbed (hides m d) (hides c d) (λ h. ap (λ k. hides_as k m d) (f m refl)
        ∙ family_covers m c d (ap (λ k. hides_as k m c) (sym (f m refl)) ∙ i) (ap (λ k. hides_as k c d) (sym k) ∙ h)))
    by false i = sym (replaced (hides m d) (hides c d) (λ h.
        let j : hides_as DeleteFamily m d ≡ true = ap (λ k. hides_as k m d) (sym (f m refl)) ∙ h in
        ap (λ k. hides_as k c d) k
        ∙ family_wider m c d (family_on m d c (left (same_family m d) _ j) s) j (ap (λ k. hides_as k m c) (sym (f m refl)) ∙ i)))

-- a marker of a family
pub puts_wide : (families : List (List ℕ × ℕ)) (cells held : List Cell) (shown : ℕ) (family : Option Cell) (c : Cell) → c.kind ≡ DeleteFamily
    → ((m : Cell) → family ≡ Some m → m.kind ≡ DeleteFamily)
    → AllAhead cells c → ends_at held c ≡ false → Puts families cells held shown family → Puts families (cells ++ c ∷ []) held shown (wider family c)
puts_wide families cells held shown family c k f o n p =
    puts_marker families cells held shown family (wider family c) c (ap is_put k) o n p
    (filter-same (λ d. not (is_hidden (wider family c) d)) (λ d. not (is_hidden family d) && not (hides c d)) held
    (λ d m. ap not (wider_hides family c k f d (p.one d c m n)) ∙ not_or (is_hidden family d) (hides c d))
    ∙ filter-both (λ d. not (is_hidden family d)) (λ d. not (hides c d)) held
    ∙ ap (filter (λ d. not (hides c d))) p.shows
    ∙ sym (filter-both (survives cells) (λ d. not (hides c d)) (newest families (winners cells)))
    ∙ sym (filter-same (survives (cells ++ c ∷ [])) (λ d. survives cells d && not (hides c d)) (newest families (winners cells))
    (λ d m. ap not (any-push (λ m. by_family m d) cells c) ∙ not_or (list_any (λ m. by_family m d) cells) (by_family c d)
    ∙ ap (λ k. survives cells d && not (is_wide k && hides c d)) k)))

-- ---- a put comes

-- whether it is held
abbrev pub is_held : List (List ℕ × ℕ) → List Cell → List Cell → ℕ → Cell → Bool
is_held families cells held shown c =
    survives cells c && (is_candidate cells c && (not (passes same_version (last_of held) c) && nat_lt (shown_at held shown c) (versions_of families c.family)))

same_version_column : (a b : Cell) → same_version a b ≡ true → same_column a b ≡ true
same_version_column a b h = left (same_column a b) _ h

-- of its column a later cell has it as the only one of its version
pub no_older : (cells ws : List Cell) (c e : Cell) → ((d : Cell) → Member d ws → Member d cells) → AllAhead cells c → Ahead c e → has_version ws c ≡ false → has_version ws e ≡ false
no_older cells ws c e within a b h = never (has_version ws e) (λ k.
    let x = any_some (λ d. same_version d e) ws k in
    let column = left (same_column x.0 e) _ x.2 in
    let before = a x.0 (within x.0 x.1) in
    let s = between_column x.0 c e before b column in
    let i = ts_falls x.0 c s before in
    let j = ts_falls c e (column_on c x.0 e (column_back x.0 c s) column) b in
    let ts : x.0.ts ≡ e.ts = eqb-true x.0.ts e.ts (right (same_column x.0 e) _ x.2) in
    let y = some_any (λ d. same_version d c) ws x.0 x.1 (both _ _ s (eq-eqb x.0.ts c.ts (omega arith))) in absurd (cc))

pub versions_same : (families : List (List ℕ × ℕ)) (c e : Cell) → same_column c e ≡ true → versions_of families c.family ≡ versions_of families e.family
versions_same families c e h = ap (versions_of families) ((in_column c e h).family)
