-- The markers that matter, as cells come in key order.
use Rattle.std.proofs.Common.{◌≡◌, ◌<◌, Bool, true, false, not, ◌&&◌, ◌||◌, cond, List, [], ◌∷◌, ◌++◌, Option, Some, None, inl, inr, refl, sym, ap, ◌∙◌, subst, arith}
use Rattle.std.specs.Prelude.{nat_le}
use Rattle.std.specs.List.{list_any}
use Rattle.std.proofs.lemmas.Bool.{eqb-true, eq-eqb, leb-true, leb-false, le-leb}
use Rattle.hb_cell.specs.declared.cell.Cell.{Cell}
use Rattle.hb_cell.specs.declared.kind.Kind.{Kind}
use Rattle.hb_cell.specs.declared.kind.Kind.TheVariants.{Put, Delete, DeleteColumn, DeleteFamily}
use Rattle.hb_cell.specs.Hiding.{hides, hides_as, same_family, same_column}
use Rattle.cell_sight.specs.Member.{Member}
use Rattle.cell_merge.specs.Kept.{is_hidden, wider}
use Rattle.cell_merge.proofs.Places.{Ahead, family_back, family_on, column_back, column_on, between_family, between_column, ts_falls}
use Rattle.cell_merge.proofs.Streaming.{any-push, is_wide, by_family, by_column}
use Rattle.cell_merge.proofs.Winners.{AllAhead}
use Rattle.cell_sight.proofs.Truths.{left, right, both}

pub member_left : {X : Type 0} (x : X) (xs ys : List X) → Member x xs → Member x (xs ++ ys)
member_left x [] ys m = absurd m
member_left x (z ∷ zs) ys (inl e) = inl e
member_left x (z ∷ zs) ys (inr m) = inr (member_left x zs ys m)

pub member_last : {X : Type 0} (x : X) (xs : List X) → Member x (xs ++ x ∷ [])
member_last x [] = inl refl
member_last x (z ∷ zs) = inr (member_last x zs)

pub ahead_left : (cells : List Cell) (c e : Cell) → AllAhead (cells ++ c ∷ []) e → AllAhead cells e
ahead_left cells c e a d m = a d (member_left d cells (c ∷ []) m)

pub ahead_last : (cells : List Cell) (c e : Cell) → AllAhead (cells ++ c ∷ []) e → Ahead c e
ahead_last cells c e a = a c (member_last c cells)

-- what a DeleteColumn, or a DeleteFamily, hides is hidden by one that hides it
column_covers : (m c e : Cell) → hides_as DeleteColumn m c ≡ true → hides_as DeleteColumn c e ≡ true → hides_as DeleteColumn m e ≡ true
column_covers m c e h k =
    let a = leb-true c.ts m.ts (right (same_column m c) _ h) in let b = leb-true e.ts c.ts (right (same_column c e) _ k) in
    both _ _ (column_on m c e (left (same_column m c) _ h) (left (same_column c e) _ k)) (le-leb e.ts m.ts (omega arith))

pub family_covers : (m c e : Cell) → hides_as DeleteFamily m c ≡ true → hides_as DeleteFamily c e ≡ true → hides_as DeleteFamily m e ≡ true
family_covers m c e h k =
    let a = leb-true c.ts m.ts (right (same_family m c) _ h) in let b = leb-true e.ts c.ts (right (same_family c e) _ k) in
    both _ _ (family_on m c e (left (same_family m c) _ h) (left (same_family c e) _ k)) (le-leb e.ts m.ts (omega arith))

-- and a later one that an earlier one does not hide hides what that one hides behind it
column_goes_on : (m c e : Cell) → Ahead m c → Ahead c e → hides_as DeleteColumn m e ≡ true → hides_as DeleteColumn m c ≡ false → hides_as DeleteColumn c e ≡ true
column_goes_on m c e a b h n =
    let s = between_column m c e a b (left (same_column m e) _ h) in
    let above : m.ts < c.ts = leb-false c.ts m.ts (ap (λ x. x && nat_le c.ts m.ts) (sym s) ∙ n) in
    let upto = leb-true e.ts m.ts (right (same_column m e) _ h) in
    both _ _ (column_on c m e (column_back m c s) (left (same_column m e) _ h)) (le-leb e.ts c.ts (omega arith))

pub family_wider : (m c e : Cell) → same_family m c ≡ true → hides_as DeleteFamily m e ≡ true → hides_as DeleteFamily m c ≡ false → hides_as DeleteFamily c e ≡ true
family_wider m c e s h n =
    let above : m.ts < c.ts = leb-false c.ts m.ts (ap (λ x. x && nat_le c.ts m.ts) (sym s) ∙ n) in
    let upto = leb-true e.ts m.ts (right (same_family m e) _ h) in
    both _ _ (family_on c m e (family_back m c s) (left (same_family m e) _ h)) (le-leb e.ts c.ts (omega arith))

family_goes_on : (m c e : Cell) → Ahead m c → Ahead c e → hides_as DeleteFamily m e ≡ true → hides_as DeleteFamily m c ≡ false → hides_as DeleteFamily c e ≡ true
family_goes_on m c e a b h n = family_wider m c e (between_family m c e a b (left (same_family m e) _ h)) h n

version_goes_on : (m c e : Cell) → Ahead m c → Ahead c e → hides_as Delete m e ≡ true → hides_as Delete c e ≡ true
version_goes_on m c e a b h =
    let s = between_column m c e a b (left (same_column m e) _ h) in
    let t = column_on c m e (column_back m c s) (left (same_column m e) _ h) in
    let e_ts : e.ts ≡ m.ts = eqb-true e.ts m.ts (right (same_column m e) _ h) in
    let x = ts_falls m c s a in let y = ts_falls c e t b in
    both _ _ t (eq-eqb e.ts c.ts (omega arith))

-- the markers that are kept hide what all that came hide behind them
pub record Marks (cells : List Cell) (family column version : Option Cell) : Type 0 where
  pub by_columns : (e : Cell) → AllAhead cells e → list_any (λ m. by_column m e) cells ≡ (is_hidden column e || is_hidden version e)
  pub by_families : (e : Cell) → AllAhead cells e → list_any (λ m. by_family m e) cells ≡ is_hidden family e
  pub family_of : (m : Cell) → family ≡ Some m → Member m cells × (m.kind ≡ DeleteFamily)
  pub column_of : (m : Cell) → column ≡ Some m → Member m cells × (m.kind ≡ DeleteColumn)
  pub version_of : (m : Cell) → version ≡ Some m → Member m cells × (m.kind ≡ Delete)

pub no_marks : Marks [] None None None
no_marks = record {
  by_columns = λ e a. refl;
  by_families = λ e a. refl;
  family_of = λ m h. absurd (cc);
  column_of = λ m h. absurd (cc);
  version_of = λ m h. absurd (cc);
}

or_false : (b : Bool) → (b || false) ≡ b
or_false true = refl
or_false false = refl

-- nothing of this kind comes
idle : (P : Cell → Bool) (cells : List Cell) (c : Cell) (b : Bool) → P c ≡ false → list_any P cells ≡ b → list_any P (cells ++ c ∷ []) ≡ b
idle P cells c b h k = any-push P cells c ∙ ap (λ x. list_any P cells || x) h ∙ or_false (list_any P cells) ∙ k

still : (cells : List Cell) (c : Cell) (k : Kind) (o : Option Cell) → ((m : Cell) → o ≡ Some m → Member m cells × (m.kind ≡ k))
    → (m : Cell) → o ≡ Some m → Member m (cells ++ c ∷ []) × (m.kind ≡ k)
still cells c k o h m e = let i = h m e in (member_left m cells (c ∷ []) i.0, i.1)

fresh : (cells : List Cell) (c : Cell) (k : Kind) → c.kind ≡ k → (m : Cell) → Some c ≡ Some m → Member m (cells ++ c ∷ []) × (m.kind ≡ k)
fresh cells c k h m e = let i : c ≡ m = cc in subst (λ m. Member m (cells ++ c ∷ []) × (m.kind ≡ k)) i (member_last c cells, h)

-- a put or a Delete is no marker of a family, and so on
narrow : (c e : Cell) (k : Kind) → c.kind ≡ k → is_wide k ≡ false → by_family c e ≡ false
narrow c e k h w = ap (λ k. is_wide k && hides c e) h ∙ ap (λ b. b && hides c e) w

pub marks_put : (cells : List Cell) (family column version : Option Cell) (c : Cell) → c.kind ≡ Put → Marks cells family column version
    → Marks (cells ++ c ∷ []) family column version
marks_put cells family column version c k s = record {
  by_columns = λ e a. idle (λ m. by_column m e) cells c _ (ap (λ k. not (is_wide k) && hides_as k c e) k) (s.by_columns e (ahead_left cells c e a));
  by_families = λ e a. idle (λ m. by_family m e) cells c _ (narrow c e Put k refl) (s.by_families e (ahead_left cells c e a));
  family_of = still cells c DeleteFamily family s.family_of;
  column_of = still cells c DeleteColumn column s.column_of;
  version_of = still cells c Delete version s.version_of;
}

drop_middle : (a b d : Bool) → (b ≡ true → d ≡ true) → ((a || b) || d) ≡ (a || d)
drop_middle true b d h = refl
drop_middle false true d h = sym (h refl)
drop_middle false false d h = refl

drop_last : (a b d : Bool) → (d ≡ true → a ≡ true) → ((a || b) || d) ≡ (a || b)
drop_last true b d h = refl
drop_last false true d h = refl
drop_last false false true h = let x = h refl in absurd (cc)
drop_last false false false h = refl

drop_first : (a b d : Bool) → (a ≡ true → d ≡ true) → ((a || b) || d) ≡ (d || b)
drop_first true b true h = refl
drop_first true b false h = let x = h refl in absurd (cc)
drop_first false true true h = refl
drop_first false true false h = refl
drop_first false false true h = refl
drop_first false false false h = refl

pub marks_delete : (cells : List Cell) (family column version : Option Cell) (c : Cell) → c.kind ≡ Delete → AllAhead cells c → Marks cells family column version
    → Marks (cells ++ c ∷ []) family column (Some c)
marks_delete cells family column version c k o s = record {
  by_columns = λ e a.
      any-push (λ m. by_column m e) cells c ∙ ap (λ b. b || by_column c e) (s.by_columns e (ahead_left cells c e a))
      ∙ ap (λ b. (is_hidden column e || is_hidden version e) || b) (ap (λ k. not (is_wide k) && hides c e) k)
      ∙ drop_middle (is_hidden column e) (is_hidden version e) (hides c e) (λ h. ap (λ k. hides_as k c e) k ∙ older version s.version_of e h (ahead_last cells c e a));
  by_families = λ e a. idle (λ m. by_family m e) cells c _ (narrow c e Delete k refl) (s.by_families e (ahead_left cells c e a));
  family_of = still cells c DeleteFamily family s.family_of;
  column_of = still cells c DeleteColumn column s.column_of;
  version_of = fresh cells c Delete k;
}
  where
    older : (v : Option Cell) → ((m : Cell) → v ≡ Some m → Member m cells × (m.kind ≡ Delete)) → (e : Cell) → is_hidden v e ≡ true → Ahead c e → hides_as Delete c e ≡ true
    older None f e h a = absurd (cc)
    older (Some m) f e h a = let i = f m refl in version_goes_on m c e (o m i.0) a (ap (λ k. hides_as k m e) (sym i.1) ∙ h)

pub marks_column : (cells : List Cell) (family column version : Option Cell) (c : Cell) → c.kind ≡ DeleteColumn → AllAhead cells c → Marks cells family column version
    → Marks (cells ++ c ∷ []) family (wider column c) version
marks_column cells family column version c k o s = record {
  by_columns = λ e a.
      any-push (λ m. by_column m e) cells c ∙ ap (λ b. b || by_column c e) (s.by_columns e (ahead_left cells c e a))
      ∙ ap (λ b. (is_hidden column e || is_hidden version e) || b) (ap (λ k. not (is_wide k) && hides_as k c e) k)
      ∙ wide column s.column_of (is_hidden column c) refl e (ahead_last cells c e a);
  by_families = λ e a. idle (λ m. by_family m e) cells c _ (narrow c e DeleteColumn k refl) (s.by_families e (ahead_left cells c e a));
  family_of = still cells c DeleteFamily family s.family_of;
  version_of = still cells c Delete version s.version_of;
  column_of = of column s.column_of (is_hidden column c);
}
  where
    of : (v : Option Cell) → ((m : Cell) → v ≡ Some m → Member m cells × (m.kind ≡ DeleteColumn)) → (b : Bool) → (m : Cell) → cond b v (Some c) ≡ Some m
        → Member m (cells ++ c ∷ []) × (m.kind ≡ DeleteColumn)
    of v f true m e = still cells c DeleteColumn v f m e
    of v f false m e = fresh cells c DeleteColumn k m e

    wide : (v : Option Cell) → ((m : Cell) → v ≡ Some m → Member m cells × (m.kind ≡ DeleteColumn)) → (b : Bool) → is_hidden v c ≡ b → (e : Cell) → Ahead c e
        → ((is_hidden v e || is_hidden version e) || hides_as DeleteColumn c e) ≡ (is_hidden (cond (is_hidden v c) v (Some c)) e || is_hidden version e)
    wide None f b i e a = drop_first false (is_hidden version e) (hides_as DeleteColumn c e) (λ h. absurd (cc)) ∙ ap (λ k. hides_as k c e || is_hidden version e) (sym k)
    wide (Some m) f true i e a =
        let j = f m refl in
        drop_last (hides m e) (is_hidden version e) (hides_as DeleteColumn c e) (λ h. ap (λ k. hides_as k m e) j.1 ∙ column_covers m c e (ap (λ k. hides_as k m c) (sym j.1) ∙ i) h)
        ∙ ap (λ b. is_hidden (cond b (Some m) (Some c)) e || is_hidden version e) (sym i)
    wide (Some m) f false i e a =
        let j = f m refl in
        drop_first (hides m e) (is_hidden version e) (hides_as DeleteColumn c e) (λ h. column_goes_on m c e (o m j.0) a (ap (λ k. hides_as k m e) (sym j.1) ∙ h) (ap (λ k. hides_as k m c) (sym j.1) ∙ i))
        ∙ ap (λ k. hides_as k c e || is_hidden version e) (sym k)
        ∙ ap (λ b. is_hidden (cond b (Some m) (Some c)) e || is_hidden version e) (sym i)

pub marks_family : (cells : List Cell) (family column version : Option Cell) (c : Cell) → c.kind ≡ DeleteFamily → AllAhead cells c → Marks cells family column version
    → Marks (cells ++ c ∷ []) (wider family c) column version
marks_family cells family column version c k o s = record {
  by_columns = λ e a. idle (λ m. by_column m e) cells c _ (ap (λ k. not (is_wide k) && hides c e) k) (s.by_columns e (ahead_left cells c e a));
  by_families = λ e a.
      any-push (λ m. by_family m e) cells c ∙ ap (λ b. b || by_family c e) (s.by_families e (ahead_left cells c e a))
      ∙ ap (λ b. is_hidden family e || b) (ap (λ k. is_wide k && hides_as k c e) k)
      ∙ wide family s.family_of (is_hidden family c) refl e (ahead_last cells c e a);
  column_of = still cells c DeleteColumn column s.column_of;
  version_of = still cells c Delete version s.version_of;
  family_of = of family s.family_of (is_hidden family c);
}
  where
    of : (v : Option Cell) → ((m : Cell) → v ≡ Some m → Member m cells × (m.kind ≡ DeleteFamily)) → (b : Bool) → (m : Cell) → cond b v (Some c) ≡ Some m
        → Member m (cells ++ c ∷ []) × (m.kind ≡ DeleteFamily)
    of v f true m e = still cells c DeleteFamily v f m e
    of v f false m e = fresh cells c DeleteFamily k m e

    absorbed : (a d : Bool) → (d ≡ true → a ≡ true) → (a || d) ≡ a
    absorbed true d h = refl
    absorbed false true h = let x = h refl in absurd (cc)
    absorbed false false h = refl

    replaced : (a d : Bool) → (a ≡ true → d ≡ true) → (a || d) ≡ d
    replaced true true h = refl
    replaced true false h = let x = h refl in absurd (cc)
    replaced false d h = refl

    wide : (v : Option Cell) → ((m : Cell) → v ≡ Some m → Member m cells × (m.kind ≡ DeleteFamily)) → (b : Bool) → is_hidden v c ≡ b → (e : Cell) → Ahead c e
        → (is_hidden v e || hides_as DeleteFamily c e) ≡ is_hidden (cond (is_hidden v c) v (Some c)) e
    wide None f b i e a = ap (λ k. hides_as k c e) (sym k)
    wide (Some m) f true i e a =
        let j = f m refl in
        absorbed (hides m e) (hides_as DeleteFamily c e) (λ h. ap (λ k. hides_as k m e) j.1 ∙ family_covers m c e (ap (λ k. hides_as k m c) (sym j.1) ∙ i) h)
        ∙ ap (λ b. is_hidden (cond b (Some m) (Some c)) e) (sym i)
    wide (Some m) f false i e a =
        let j = f m refl in
        replaced (hides m e) (hides_as DeleteFamily c e) (λ h. family_goes_on m c e (o m j.0) a (ap (λ k. hides_as k m e) (sym j.1) ∙ h) (ap (λ k. hides_as k m c) (sym j.1) ∙ i))
        ∙ ap (λ k. hides_as k c e) (sym k)
        ∙ ap (λ b. is_hidden (cond b (Some m) (Some c)) e) (sym i)
