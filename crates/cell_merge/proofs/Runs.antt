-- What is kept as cells come in key order shows what is visible of them.
use Rattle.std.proofs.Common.{◌≡◌, ℕ, ◌+◌, Bool, true, false, cond, not, ◌&&◌, ◌||◌, List, [], ◌∷◌, ◌++◌, Option, Some, None, inl, inr, refl, sym, ap, ◌∙◌, append_assoc}
use Rattle.std.specs.Prelude.{nat_lt}
use Rattle.std.specs.List.{list_any, list_all}
use Rattle.std.specs.Ordering.{is_gt}
use Rattle.hb_cell.specs.declared.cell.Cell.{Cell}
use Rattle.hb_cell.specs.declared.kind.Kind.{Kind}
use Rattle.hb_cell.specs.declared.kind.Kind.TheVariants.{Put, Delete, DeleteColumn, DeleteFamily}
use Rattle.hb_cell.specs.Hiding.{same_family}
use Rattle.hb_cell.specs.Order.{key_cmp}
use Rattle.cell_sight.specs.Member.{Member}
use Rattle.cell_sight.specs.Same.{sorted}
use Rattle.cell_sight.specs.Visible.{is_put, same_version, versions_of, visible}
use Rattle.cell_sight.proofs.InOrder.{ordered_from, sorted-ordered}
use Rattle.cell_sight.proofs.Sorting.{Ordered}
use Rattle.cell_merge.specs.Kept.{Kept, empty, passes, is_hidden, last_of, may_show, absorb, absorb_as, alive, ends, run}
use Rattle.cell_merge.proofs.Apart.{visible-apart, in_order_before}
use Rattle.cell_merge.proofs.Marks.{Marks, no_marks, marks_put, marks_delete, marks_column, marks_family}
use Rattle.cell_merge.proofs.Places.{Ahead, between_family}
use Rattle.cell_merge.proofs.Puts.{Puts, no_puts, puts_narrow, puts_wide, ends_at, shown_at, is_held, append-none}
use Rattle.cell_merge.proofs.PutSteps.{put_held, put_dropped}
use Rattle.cell_merge.proofs.Streaming.{is_wide, by_column, is_candidate, survives, visible-survives}
use Rattle.cell_merge.proofs.Winners.{AllAhead}
use Rattle.cell_sight.proofs.Truths.{left, turn, never}

pub record Holds (families : List (List ℕ × ℕ)) (cells : List Cell) (kept : Kept) : Type 0 where
  pub puts : Puts families cells kept.held kept.shown kept.family
  pub marks : Marks cells kept.family kept.column kept.version

none_held : (families : List (List ℕ × ℕ)) → Holds families [] empty
none_held families = record { puts = no_puts families; marks = no_marks }

-- the tests of the code are those of the definitions
tests_agree : (families : List (List ℕ × ℕ)) (cells : List Cell) (kept : Kept) (c : Cell) → is_put c.kind ≡ true → AllAhead cells c → Holds families cells kept
    → is_held families cells kept.held kept.shown c ≡ may_show families kept c
tests_agree families cells kept c k a h =
    let m = h.marks in
    let p : survives cells c ≡ not (is_hidden kept.family c) = ap not (m.by_families c a) in
    let q : is_candidate cells c ≡ not (is_hidden kept.column c || is_hidden kept.version c) = ap (λ b. b && not (list_any (λ m. by_column m c) cells)) k ∙ ap not (m.by_columns c a) in
    λ i. p i && (q i && (not (passes same_version (last_of kept.held) c) && nat_lt (shown_at kept.held kept.shown c) (versions_of families c.family)))

holds_put : (families : List (List ℕ × ℕ)) (cells : List Cell) (kept : Kept) (c : Cell) → c.kind ≡ Put → AllAhead cells c → ends kept c ≡ false → Holds families cells kept
    → (b : Bool) → may_show families kept c ≡ b
    → Holds families (cells ++ c ∷ []) (cond b (record kept { held = kept.held ++ c ∷ []; shown = shown_at kept.held kept.shown c + 1 }) kept)
holds_put families cells kept c k a e h true s = record {
  puts = put_held families cells kept.held kept.shown kept.family c (ap is_put k) (turn _ (left (not (is_hidden kept.family c)) _ s)) a e h.puts
      (tests_agree families cells kept c (ap is_put k) a h ∙ s);
  marks = marks_put cells kept.family kept.column kept.version c k h.marks;
}
holds_put families cells kept c k a e h false s = record {
  puts = put_dropped families cells kept.held kept.shown kept.family c (ap is_put k) a e h.puts (tests_agree families cells kept c (ap is_put k) a h ∙ s);
  marks = marks_put cells kept.family kept.column kept.version c k h.marks;
}

holds_as : (families : List (List ℕ × ℕ)) (cells : List Cell) (kept : Kept) (c : Cell) → AllAhead cells c → ends kept c ≡ false → Holds families cells kept
    → (k : Kind) → c.kind ≡ k → Holds families (cells ++ c ∷ []) (absorb_as k families kept c)
holds_as families cells kept c a e h Put k = holds_put families cells kept c k a e h (may_show families kept c) refl
holds_as families cells kept c a e h Delete k = record {
  puts = puts_narrow families cells kept.held kept.shown kept.family c (ap is_put k) (ap is_wide k) a e h.puts;
  marks = marks_delete cells kept.family kept.column kept.version c k a h.marks;
}
holds_as families cells kept c a e h DeleteColumn k = record {
  puts = puts_narrow families cells kept.held kept.shown kept.family c (ap is_put k) (ap is_wide k) a e h.puts;
  marks = marks_column cells kept.family kept.column kept.version c k a h.marks;
}
holds_as families cells kept c a e h DeleteFamily k = record {
  puts = let m = h.marks in puts_wide families cells kept.held kept.shown kept.family c k (λ d i. (m.family_of d i).1) a e h.puts;
  marks = marks_family cells kept.family kept.column kept.version c k a h.marks;
}

pub holds_step : (families : List (List ℕ × ℕ)) (cells : List Cell) (kept : Kept) (c : Cell) → AllAhead cells c → ends kept c ≡ false → Holds families cells kept
    → Holds families (cells ++ c ∷ []) (absorb families kept c)
holds_step families cells kept c a e h = holds_as families cells kept c a e h c.kind refl

order_back : (xs ys : List Cell) → Ordered key_cmp (xs ++ ys) → Ordered key_cmp ys
order_back [] ys o = o
order_back (x ∷ xs) ys o = order_back xs ys o.1

all_front : {X : Type 0} (p : X → Bool) (xs ys : List X) → list_all p (xs ++ ys) ≡ true → list_all p xs ≡ true
all_front p [] ys h = refl
all_front p (x ∷ xs) ys h = elim (p x) as (λ b. (b && list_all p (xs ++ ys)) ≡ true → (b && list_all p xs) ≡ true) [
  | true ↦ λ e. all_front p xs ys e
  | false ↦ λ e. absurd (cc)
] h

order_head : (xs ys : List Cell) → Ordered key_cmp (xs ++ ys) → Ordered key_cmp xs
order_head [] ys o = tt
order_head (x ∷ xs) ys o = (all_front (λ d. not (is_gt (key_cmp x d))) xs ys o.0, order_head xs ys o.1)

order_left : (xs ys : List Cell) → sorted (xs ++ ys) ≡ xs ++ ys → sorted xs ≡ xs
order_left xs ys o = sorted-ordered xs (order_head xs ys (ordered_from (xs ++ ys) o))

order_right : (xs ys : List Cell) → sorted (xs ++ ys) ≡ xs ++ ys → sorted ys ≡ ys
order_right xs ys o = sorted-ordered ys (order_back xs ys (ordered_from (xs ++ ys) o))

-- cells of another family stay so
stays_ended : (o : Option Cell) (c d : Cell) → passes (λ x y. not (same_family x y)) o c ≡ true → ((l : Cell) → o ≡ Some l → Ahead l c) → Ahead c d
    → passes (λ x y. not (same_family x y)) o d ≡ true
stays_ended None c d e f a = e
stays_ended (Some l) c d e f a = ap not (never (same_family l d) (λ s. let t = between_family l c d (f l refl) a s in let n = turn _ e in absurd (cc)))

module _ (families : List (List ℕ × ℕ)) where
  pub run_visible : (rest cells : List Cell) (kept : Kept) → Holds families cells kept → sorted (cells ++ rest) ≡ cells ++ rest → run families kept rest ≡ visible families (cells ++ rest)
  run_visible [] cells kept h o =
      let p = h.puts in
      p.shows ∙ sym (visible-survives families cells (ap sorted (sym (append-none cells)) ∙ o ∙ append-none cells)) ∙ ap (visible families) (sym (append-none cells))
  run_visible (c ∷ cs) cells kept h o =
      by (λ a i. run_visible cs (cells ++ c ∷ []) (absorb families kept c) (holds_step families cells kept c a i h))
      (run_visible cs (c ∷ []) (absorb families empty c) (holds_step families [] empty c (λ d m. absurd m) refl (none_held families)))
      (ends kept c) refl
    where
      ahead : AllAhead cells c
      ahead d m = in_order_before cells (c ∷ cs) (ordered_from (cells ++ c ∷ cs) o) d c m (inl refl)

      by : (AllAhead cells c → ends kept c ≡ false → sorted ((cells ++ c ∷ []) ++ cs) ≡ (cells ++ c ∷ []) ++ cs
          → run families (absorb families kept c) cs ≡ visible families ((cells ++ c ∷ []) ++ cs))
          → (sorted (c ∷ cs) ≡ c ∷ cs → run families (absorb families empty c) cs ≡ visible families (c ∷ cs))
          → (b : Bool) → ends kept c ≡ b
          → cond b (alive kept.family kept.held ++ run families (absorb families empty c) cs) (run families (absorb families kept c) cs) ≡ visible families (cells ++ c ∷ cs)
      by on over false e =
          let s : (cells ++ c ∷ []) ++ cs ≡ cells ++ c ∷ cs = append_assoc cells (c ∷ []) cs in
          on ahead e (ap sorted s ∙ o ∙ sym s) ∙ ap (visible families) s
      by on over true e =
          let p = h.puts in
          let shown : alive kept.family kept.held ≡ visible families cells = p.shows ∙ sym (visible-survives families cells (order_left cells (c ∷ cs) o)) in
          ap (λ xs. xs ++ run families (absorb families empty c) cs) shown
          ∙ ap (λ xs. visible families cells ++ xs) (over (order_right cells (c ∷ cs) o))
          ∙ sym (visible-apart cells (c ∷ cs) other families o)
        where
          before : (d y : Cell) → Member d cells → Member y (c ∷ cs) → Ahead d y
          before d y m n = in_order_before cells (c ∷ cs) (ordered_from (cells ++ c ∷ cs) o) d y m n

          also : (y : Cell) → Member y (c ∷ cs) → ends_at kept.held y ≡ true
          also y (inl i) = ap (ends_at kept.held) (sym i) ∙ e
          also y (inr m) = let p = h.puts in stays_ended (last_of kept.held) c y e (λ l i. before l c (p.last_in l i) (inl refl))
              (in_order_before (c ∷ []) cs (ordered_from (c ∷ cs) (order_right cells (c ∷ cs) o)) c y (inl refl) m)

          other : (x y : Cell) → Member x cells → Member y (c ∷ cs) → same_family x y ≡ false
          other x y m n = let p = h.puts in p.apart y (λ d k. before d y k n) (also y n) x m

  -- of cells in key order what is visible shows
  pub run_all : (cells : List Cell) → sorted cells ≡ cells → run families empty cells ≡ visible families cells
  run_all cells o = run_visible cells [] empty (none_held families) o
