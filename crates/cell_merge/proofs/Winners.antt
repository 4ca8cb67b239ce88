-- What the next cell in key order adds to those of a column that may show.
use Rattle.std.proofs.Common.{◌≡◌, ℕ, Bool, true, false, cond, not, ◌&&◌, ◌||◌, List, [], ◌∷◌, ◌++◌, refl, sym, ap, ◌∙◌, arith}
use Rattle.std.specs.Prelude.{filter, count_by, nat_lt}
use Rattle.std.specs.List.{list_any}
use Rattle.std.proofs.lemmas.Bool.{eqb-true, ltb-true, leb-true}
use Rattle.std.proofs.lemmas.List.Elements.{filter-append}
use Rattle.hb_cell.specs.declared.cell.Cell.{Cell}
use Rattle.hb_cell.specs.declared.kind.Kind.{Kind}
use Rattle.hb_cell.specs.declared.kind.Kind.TheVariants.{Put, Delete, DeleteColumn, DeleteFamily}
use Rattle.hb_cell.specs.Kinds.{code}
use Rattle.hb_cell.specs.Hiding.{hides, hides_as, same_column}
use Rattle.cell_sight.specs.Member.{Member}
use Rattle.cell_sight.specs.Visible.{is_put, same_version, is_newer, versions_of, firsts, newest}
use Rattle.cell_sight.proofs.Counts.{count-append, count-cons}
use Rattle.cell_sight.proofs.Filters.{any-filter}
use Rattle.cell_sight.proofs.SeenAgain.{no_hider}
use Rattle.cell_sight.proofs.Versions.{alike, alike_back, from_alike}
use Rattle.cell_merge.proofs.Places.{Ahead, column_back, ts_falls, code_falls}
use Rattle.cell_merge.proofs.Streaming.{filter-same, any-push, is_wide, by_column, is_candidate, candidates, winners}
use Rattle.cell_sight.proofs.Truths.{left, right, never}

-- all of the cells stand before one
abbrev pub AllAhead : List Cell → Cell → Type 0
AllAhead cells c = (d : Cell) → Member d cells → Ahead d c

put_code : (k : Kind) → is_put k ≡ true → code k ≡ 4
put_code Put h = refl
put_code Delete h = absurd (cc)
put_code DeleteColumn h = absurd (cc)
put_code DeleteFamily h = absurd (cc)

-- a marker of a column hides no put before it
too_late : (k : Kind) (m d : Cell) → m.kind ≡ k → is_put d.kind ≡ true → Ahead d m → (not (is_wide k) && hides_as k m d) ≡ true → ⊥
too_late Put m d e p a h = absurd (cc)
too_late Delete m d e p a h =
    let column = left (same_column m d) _ h in
    let ts : d.ts ≡ m.ts = eqb-true d.ts m.ts (right (same_column m d) _ h) in
    let codes = code_falls d m (column_back m d column) (sym ts) a in
    let put = put_code d.kind p in let marker : code m.kind ≡ 8 = ap code e in absurd (omega arith)
too_late DeleteColumn m d e p a h =
    let column = left (same_column m d) _ h in
    let upto = leb-true d.ts m.ts (right (same_column m d) _ h) in
    let falls = ts_falls d m (column_back m d column) a in
    let ts : m.ts ≡ d.ts = omega arith in
    let codes = code_falls d m (column_back m d column) ts a in
    let put = put_code d.kind p in let marker : code m.kind ≡ 12 = ap code e in absurd (omega arith)
too_late DeleteFamily m d e p a h = absurd (cc)

same_test : (p a b : Bool) → (p ≡ true → b ≡ false) → (p && not (a || b)) ≡ (p && not a)
same_test true true b h = refl
same_test true false b h = ap not (h refl)
same_test false a b h = refl

-- a cell behind the others changes no test of theirs, and its own is that of the others
candidate_before : (cells : List Cell) (c d : Cell) → Ahead d c → is_candidate (cells ++ c ∷ []) d ≡ is_candidate cells d
candidate_before cells c d a = ap (λ b. is_put d.kind && not b) (any-push (λ m. by_column m d) cells c)
    ∙ same_test (is_put d.kind) (list_any (λ m. by_column m d) cells) (by_column c d) (λ p. never (by_column c d) (too_late c.kind c d refl p a))

and_false : (b c : Bool) → c ≡ false → (b && c) ≡ false
and_false true c h = h
and_false false c h = refl

candidate_own : (cells : List Cell) (c : Cell) → is_candidate (cells ++ c ∷ []) c ≡ is_candidate cells c
candidate_own cells c = ap (λ b. is_put c.kind && not b) (any-push (λ m. by_column m c) cells c)
    ∙ same_test (is_put c.kind) (list_any (λ m. by_column m c) cells) (by_column c c) (λ p. and_false (not (is_wide c.kind)) (hides c c) (no_hider c.kind c c p))

candidates-push : (cells : List Cell) (c : Cell) → AllAhead cells c
    → candidates (cells ++ c ∷ []) ≡ candidates cells ++ cond (is_candidate cells c) (c ∷ []) []
candidates-push cells c a =
    filter-append (is_candidate (cells ++ c ∷ [])) cells (c ∷ [])
    ∙ ap (λ xs. xs ++ filter (is_candidate (cells ++ c ∷ [])) (c ∷ [])) (filter-same (is_candidate (cells ++ c ∷ [])) (is_candidate cells) cells (λ d m. candidate_before cells c d (a d m)))
    ∙ ap (λ b. candidates cells ++ cond b (c ∷ []) []) (candidate_own cells c)

-- ---- the first of a version

abbrev pub has_version : List Cell → Cell → Bool
has_version cells c = list_any (λ d. same_version d c) cells

same_version_on : (a b c : Cell) → same_version a b ≡ true → same_version a c ≡ true → same_version b c ≡ true
same_version_on a b c h k = let f = alike a b h in let g = alike a c k in
    from_alike b c (record { row = sym f.row ∙ g.row; family = sym f.family ∙ g.family; qualifier = sym f.qualifier ∙ g.qualifier; ts = sym f.ts ∙ g.ts })

-- the cells of another version stay where those of one go
other_stays : (x c d : Cell) → same_version x c ≡ false → same_version d c ≡ true → not (same_version x d) ≡ true
other_stays x c d h k = ap not (never (same_version x d) (λ e. let s : same_version x c ≡ true = same_version_on d x c (alike_back x d e) k in absurd (cc)))

firsts-push : (cells : List Cell) (c : Cell) → firsts (cells ++ c ∷ []) ≡ firsts cells ++ cond (has_version (firsts cells) c) [] (c ∷ [])
firsts-push [] c = refl
firsts-push (x ∷ xs) c =
    let keep = λ (d : Cell). not (same_version x d) in
    ap (λ ys. x ∷ filter keep ys) (firsts-push xs c)
    ∙ ap (λ ys. x ∷ ys) (filter-append keep (firsts xs) (cond (has_version (firsts xs) c) [] (c ∷ [])))
    ∙ ap (λ ys. x ∷ (filter keep (firsts xs) ++ ys)) (by (same_version x c) refl)
  where
    by : (b : Bool) → same_version x c ≡ b → filter (λ d. not (same_version x d)) (cond (has_version (firsts xs) c) [] (c ∷ []))
        ≡ cond (same_version x c || has_version (filter (λ d. not (same_version x d)) (firsts xs)) c) [] (c ∷ [])
    by true e = (elim (has_version (firsts xs) c) as (λ b. filter (λ d. not (same_version x d)) (cond b [] (c ∷ [])) ≡ []) [
      | true ↦ refl
      | false ↦ ap (λ b. cond (not b) (c ∷ []) []) e
    ]) ∙ ap (λ b. cond (b || has_version (filter (λ d. not (same_version x d)) (firsts xs)) c) [] (c ∷ [])) (sym e)
    by false e =
        (elim (has_version (firsts xs) c) as (λ b. filter (λ d. not (same_version x d)) (cond b [] (c ∷ [])) ≡ cond b [] (c ∷ [])) [
          | true ↦ refl
          | false ↦ ap (λ b. cond (not b) (c ∷ []) []) e
        ])
        ∙ ap (λ b. cond b [] (c ∷ [])) (sym (any-filter (λ d. same_version d c) (λ d. not (same_version x d)) (firsts xs) (λ d k. other_stays x c d e k)))
        ∙ ap (λ b. cond (b || has_version (filter (λ d. not (same_version x d)) (firsts xs)) c) [] (c ∷ [])) (sym e)

-- the next cell wins where it is a candidate and the first of its version
abbrev pub wins : List Cell → Cell → Bool
wins cells c = is_candidate cells c && not (has_version (winners cells) c)

pub winners-push : (cells : List Cell) (c : Cell) → AllAhead cells c → winners (cells ++ c ∷ []) ≡ winners cells ++ cond (wins cells c) (c ∷ []) []
winners-push cells c a = ap firsts (candidates-push cells c a) ∙ by (is_candidate cells c)
  where
    append-none : (xs : List Cell) → xs ++ [] ≡ xs
    append-none [] = refl
    append-none (x ∷ xs) = ap (λ ys. x ∷ ys) (append-none xs)

    turned : (b : Bool) → cond b [] (c ∷ []) ≡ cond (not b) (c ∷ []) []
    turned true = refl
    turned false = refl

    by : (b : Bool) → firsts (candidates cells ++ cond b (c ∷ []) []) ≡ winners cells ++ cond (b && not (has_version (winners cells) c)) (c ∷ []) []
    by true = firsts-push (candidates cells) c ∙ ap (λ ys. winners cells ++ ys) (turned (has_version (winners cells) c))
    by false = ap firsts (append-none (candidates cells)) ∙ sym (append-none (winners cells))

-- ---- the newest of a column

-- a later cell is no newer than one before it
not_newer : (c d : Cell) → Ahead d c → is_newer c d ≡ false
not_newer c d a = never (is_newer c d) (λ h.
    let column = left (same_column c d) _ h in
    let less = ltb-true d.ts c.ts (right (same_column c d) _ h) in
    let falls = ts_falls d c (column_back c d column) a in absurd (omega arith))

count-push : (p : Cell → Bool) (xs : List Cell) (y : Cell) → p y ≡ false → count_by p (xs ++ y ∷ []) ≡ count_by p xs
count-push p xs y h =
    let e = count-append p xs (y ∷ []) in let f = count-cons p y [] in
    let g : ◌≡◌ {A = ℕ} (cond (p y) 1 0) 0 = ap (λ b. cond b 1 0) h in let z = none p in omega arith
  where
    none : (p : Cell → Bool) → count_by p [] ≡ 0
    none p = refl

pub newest-push : (families : List (List ℕ × ℕ)) (cells : List Cell) (c : Cell) → AllAhead cells c
    → newest families (cells ++ c ∷ []) ≡ newest families cells ++ cond (nat_lt (count_by (λ d. is_newer d c) cells) (versions_of families c.family)) (c ∷ []) []
newest-push families cells c a =
    let test = λ (xs : List Cell) (d : Cell). nat_lt (count_by (λ e. is_newer e d) xs) (versions_of families d.family) in
    filter-append (test (cells ++ c ∷ [])) cells (c ∷ [])
    ∙ ap (λ xs. xs ++ filter (test (cells ++ c ∷ [])) (c ∷ [])) (filter-same (test (cells ++ c ∷ [])) (test cells) cells
    (λ d m. ap (λ n. nat_lt n (versions_of families d.family)) (count-push (λ e. is_newer e d) cells c (not_newer c d (a d m)))))
    ∙ ap (λ n. newest families cells ++ cond (nat_lt n (versions_of families c.family)) (c ∷ []) [])
    (count-push (λ e. is_newer e c) cells c (never (is_newer c c) (λ h. let less = ltb-true c.ts c.ts (right (same_column c c) _ h) in absurd (omega arith))))
