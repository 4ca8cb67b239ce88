-- A put comes in key order, and is held or dropped.
use Rattle.std.proofs.Common.{◌≡◌, ℕ, ◌+◌, ◌<◌, ◌≤◌, min, Bool, true, false, cond, not, ◌||◌, List, [], ◌∷◌, ◌++◌, Option, Some, inl, inr, refl, sym, ap, ◌∙◌, subst, arith}
use Rattle.std.specs.Prelude.{filter, nat_lt}
use Rattle.std.proofs.lemmas.Bool.{ltb-true, ltb-false, lt-ltb}
use Rattle.std.proofs.lemmas.List.Elements.{filter-append}
use Rattle.hb_cell.specs.declared.cell.Cell.{Cell}
use Rattle.hb_cell.specs.declared.kind.Kind.{Kind}
use Rattle.hb_cell.specs.declared.kind.Kind.TheVariants.{Put, Delete, DeleteColumn, DeleteFamily}
use Rattle.hb_cell.specs.Hiding.{same_family, same_column}
use Rattle.cell_sight.specs.Member.{Member}
use Rattle.cell_sight.specs.Visible.{is_put, same_version, is_newer, versions_of, newest}
use Rattle.cell_merge.specs.Kept.{passes, is_hidden, last_of, alive}
use Rattle.cell_merge.proofs.Places.{Ahead, family_back, family_on, between_family}
use Rattle.cell_merge.proofs.Streaming.{filter-same, any-push, is_wide, is_candidate, survives, winners}
use Rattle.cell_merge.proofs.Winners.{AllAhead, has_version, wins, winners-push, newest-push}
use Rattle.cell_merge.proofs.Marks.{ahead_left, ahead_last, member_left, member_last}
use Rattle.cell_merge.proofs.Puts.{count_push, none_left, all_newer, survives_before, survives_narrow, survived, append-none, winners_in, same_count, no_older, versions_same, apart_push, member_parts, last_push, in_column_of, ends_at, shown_at, Puts, is_held}
use Rattle.std.specs.Prelude.{count_by}
use Rattle.cell_sight.proofs.Truths.{left, right, both, turn, turned, never}

not_wide : (k : Kind) → is_put k ≡ true → is_wide k ≡ false
not_wide Put h = refl
not_wide Delete h = refl
not_wide DeleteColumn h = refl
not_wide DeleteFamily h = absurd (cc)

version_column : (a b : Cell) → same_version a b ≡ true → same_column a b ≡ true
version_column a b h = left (same_column a b) _ h

some_same : {a b : Cell} → ◌≡◌ {A = Option Cell} (Some a) (Some b) → a ≡ b
some_same e = cc

-- the winners all stand before it
winners_ahead : (cells : List Cell) (c : Cell) → AllAhead cells c → AllAhead (winners cells) c
winners_ahead cells c a d m = a d (winners_in d cells m)

pub put_held : (families : List (List ℕ × ℕ)) (cells held : List Cell) (shown : ℕ) (family : Option Cell) (c : Cell) → is_put c.kind ≡ true
    → is_hidden family c ≡ false → AllAhead cells c → ends_at held c ≡ false → Puts families cells held shown family → is_held families cells held shown c ≡ true
    → Puts families (cells ++ c ∷ []) (held ++ c ∷ []) (shown_at held shown c + 1) family
put_held families cells held shown family c k hf o n p h =
    let ws = winners cells in
    let v = versions_of families c.family in
    let survives_c = left (survives cells c) _ h in
    let others = right (survives cells c) _ h in
    let candidate = left (is_candidate cells c) _ others in
    let tests = right (is_candidate cells c) _ others in
    let unlike : passes same_version (last_of held) c ≡ false = turn _ (left (not (passes same_version (last_of held) c)) _ tests) in
    let room : shown_at held shown c < v = ltb-true (shown_at held shown c) v (right (not (passes same_version (last_of held) c)) _ tests) in
    let counted = p.counted c o survives_c in
    let many : in_column_of ws c < v = omega arith in
    let number : shown_at held shown c ≡ in_column_of ws c = omega arith in
    let first : has_version ws c ≡ false = p.first c o survives_c (omega arith) ∙ unlike in
    let won : wins cells c ≡ true = both (is_candidate cells c) _ candidate (ap not first) in
    let more : winners (cells ++ c ∷ []) ≡ ws ++ c ∷ [] = winners-push cells c o ∙ ap (λ b. ws ++ cond b (c ∷ []) []) won in
    let newer : count_by (λ d. is_newer d c) ws ≡ in_column_of ws c = all_newer ws c (winners_ahead cells c o) first in
    let grown : newest families (ws ++ c ∷ []) ≡ newest families ws ++ c ∷ [] =
    newest-push families ws c (winners_ahead cells c o)
    ∙ ap (λ b. newest families ws ++ cond b (c ∷ []) []) (lt-ltb (count_by (λ d. is_newer d c) ws) v (omega arith)) in
    let still : survives (cells ++ c ∷ []) c ≡ true = survives_narrow cells c c (not_wide c.kind k) ∙ survives_c in
    record {
      shows =
          filter-append (λ d. not (is_hidden family d)) held (c ∷ [])
          ∙ ap (λ b. alive family held ++ cond b (c ∷ []) []) (ap not hf)
          ∙ ap (λ xs. xs ++ c ∷ []) (p.shows ∙ filter-same (survives cells) (survives (cells ++ c ∷ [])) (newest families ws) (λ e m. sym (survives_narrow cells c e (not_wide c.kind k))))
          ∙ ap (λ b. filter (survives (cells ++ c ∷ [])) (newest families ws) ++ cond b (c ∷ []) []) (sym still)
          ∙ sym (filter-append (survives (cells ++ c ∷ [])) (newest families ws) (c ∷ []))
          ∙ ap (filter (survives (cells ++ c ∷ []))) (sym grown ∙ ap (newest families) (sym more));
      counted = λ e a s.
          ap (λ l. cond (passes same_column l e) (shown_at held shown c + 1) 0) (last_push held c)
          ∙ grows e (ahead_left cells c e a) (ahead_last cells c e a) number many (same_column c e) refl
          ∙ ap (λ m. min m (versions_of families e.family)) (sym (count_push (λ d. same_column d e) ws c) ∙ ap (λ us. in_column_of us e) (sym more));
      first = λ e a s l.
          ap (λ us. has_version us e) more ∙ any-push (λ d. same_version d e) ws c
          ∙ ap (λ b. b || same_version c e) (no_older cells ws c e (λ d m. winners_in d cells m) o (ahead_last cells c e a) first)
          ∙ ap (λ l. passes same_version l e) (sym (last_push held c));
      apart = λ e a h d m. apart_of e a (turn _ (ap (λ l. passes (λ d e. not (same_family d e)) l e) (sym (last_push held c)) ∙ h)) d m;
      one = λ d e m h. one_of d e m (turned _ (ap (λ l. passes (λ d e. not (same_family d e)) l e) (sym (last_push held c)) ∙ h));
      last_in = λ l i. (let j : c ≡ l = some_same (sym (last_push held c) ∙ i) in subst (λ l. Member l (cells ++ c ∷ [])) j (member_last c cells));
    }
  where
    grows : (e : Cell) → AllAhead cells e → Ahead c e → shown_at held shown c ≡ in_column_of (winners cells) c → in_column_of (winners cells) c < versions_of families c.family
        → (b : Bool) → same_column c e ≡ b
        → cond b (shown_at held shown c + 1) 0 ≡ min (in_column_of (winners cells) e + cond b 1 0) (versions_of families e.family)
    grows e a b number many true s =
        let x = same_count (winners cells) c e s in let y = versions_same families c e s in omega arith
    grows e a b number many false s =
        let x = none_left cells (winners cells) c e (λ d m. winners_in d cells m) o b s in omega arith

    apart_of : (e : Cell) → AllAhead (cells ++ c ∷ []) e → same_family c e ≡ false → (d : Cell) → Member d (cells ++ c ∷ []) → same_family d e ≡ false
    apart_of e a s d m = elim (member_parts d c cells m) [
      | inl i ↦ never (same_family d e) (λ t.
          let u = between_family d c e (o d i) (ahead_last cells c e a) t in
          let w : same_family c e ≡ true = family_on c d e (family_back d c u) t in absurd (cc))
      | inr i ↦ ap (λ x. same_family x e) (sym i) ∙ s
    ]

    one_of : (d e : Cell) → Member d (held ++ c ∷ []) → same_family c e ≡ true → same_family d e ≡ true
    one_of d e m s = elim (member_parts d c held m) [
      | inl i ↦ family_on d c e (p.one d c i n) s
      | inr i ↦ ap (λ x. same_family x e) (sym i) ∙ s
    ]

pub put_dropped : (families : List (List ℕ × ℕ)) (cells held : List Cell) (shown : ℕ) (family : Option Cell) (c : Cell) → is_put c.kind ≡ true
    → AllAhead cells c → ends_at held c ≡ false → Puts families cells held shown family → is_held families cells held shown c ≡ false
    → Puts families (cells ++ c ∷ []) held shown family
put_dropped families cells held shown family c k o n p h = by (wins cells c) refl
  where
    narrow : is_wide c.kind ≡ false
    narrow = not_wide c.kind k

    kept : (xs : List Cell) → filter (survives cells) xs ≡ filter (survives (cells ++ c ∷ [])) xs
    kept xs = filter-same (survives cells) (survives (cells ++ c ∷ [])) xs (λ e m. sym (survives_narrow cells c e narrow))

    -- a winner that is dropped is hidden by its family, or one too many
    full : wins cells c ≡ true → survives cells c ≡ true → versions_of families c.family ≤ in_column_of (winners cells) c
    full w s = test (nat_lt (in_column_of (winners cells) c) (versions_of families c.family)) refl
      where
        test : (b : Bool) → nat_lt (in_column_of (winners cells) c) (versions_of families c.family) ≡ b → versions_of families c.family ≤ in_column_of (winners cells) c
        test false e = ltb-false (in_column_of (winners cells) c) (versions_of families c.family) e
        test true e =
            let l = ltb-true (in_column_of (winners cells) c) (versions_of families c.family) e in
            let counted = p.counted c o s in
            let unlike : passes same_version (last_of held) c ≡ false = sym (p.first c o s (omega arith)) ∙ turn _ (right (is_candidate cells c) _ w) in
            let held_it : is_held families cells held shown c ≡ true =
            both (survives cells c) _ s (both (is_candidate cells c) _ (left (is_candidate cells c) _ w)
            (both (not (passes same_version (last_of held) c)) _ (ap not unlike) (lt-ltb (shown_at held shown c) (versions_of families c.family) (omega arith)))) in
            absurd (cc)

    lost : (s : Bool) → survives cells c ≡ s → wins cells c ≡ true
        → filter (survives (cells ++ c ∷ [])) (cond (nat_lt (count_by (λ d. is_newer d c) (winners cells)) (versions_of families c.family)) (c ∷ []) []) ≡ []
    lost true s w =
        let f = full w s in
        let newer = all_newer (winners cells) c (winners_ahead cells c o) (turn _ (right (is_candidate cells c) _ w)) in
        let none : nat_lt (count_by (λ d. is_newer d c) (winners cells)) (versions_of families c.family) ≡ false = never _ (λ e.
        let l = ltb-true (count_by (λ d. is_newer d c) (winners cells)) (versions_of families c.family) e in absurd (omega arith)) in
        ap (λ b. filter (survives (cells ++ c ∷ [])) (cond b (c ∷ []) [])) none
    lost false s w =
        let hidden : survives (cells ++ c ∷ []) c ≡ false = survives_narrow cells c c narrow ∙ s in
        elim (nat_lt (count_by (λ d. is_newer d c) (winners cells)) (versions_of families c.family)) as (λ b. filter (survives (cells ++ c ∷ [])) (cond b (c ∷ []) []) ≡ []) [
          | true ↦ ap (λ b. cond b (c ∷ []) []) hidden
          | false ↦ refl
        ]

    grown : (e : Cell) → AllAhead cells e → Ahead c e → survives cells e ≡ true → wins cells c ≡ true → (b : Bool) → same_column c e ≡ b
        → min (in_column_of (winners cells) e) (versions_of families e.family) ≡ min (in_column_of (winners cells) e + cond b 1 0) (versions_of families e.family)
    grown e a b s w true t =
        let f = full w (survives_before cells c e t b s) in
        let x = same_count (winners cells) c e t in let y = versions_same families c e t in omega arith
    grown e a b s w false t = omega arith

    first_of : (e : Cell) → AllAhead cells e → Ahead c e → survives cells e ≡ true → wins cells c ≡ true → (b : Bool) → same_column c e ≡ b
        → in_column_of (winners cells) e + cond b 1 0 ≤ versions_of families e.family
        → (has_version (winners cells) e || same_version c e) ≡ passes same_version (last_of held) e
    first_of e a b s w true t l =
        let f = full w (survives_before cells c e t b s) in
        let x = same_count (winners cells) c e t in let y = versions_same families c e t in absurd (omega arith)
    first_of e a b s w false t l =
        let other : same_version c e ≡ false = never (same_version c e) (λ v. let i = version_column c e v in absurd (cc)) in
        ap (λ b. has_version (winners cells) e || b) other ∙ (elim (has_version (winners cells) e) as (λ b. (b || false) ≡ b) [ true ↦ refl | false ↦ refl ])
        ∙ p.first e a s (omega arith)

    by : (w : Bool) → wins cells c ≡ w → Puts families (cells ++ c ∷ []) held shown family
    by false w =
        let same : winners (cells ++ c ∷ []) ≡ winners cells = winners-push cells c o ∙ ap (λ b. winners cells ++ cond b (c ∷ []) []) w ∙ append-none (winners cells) in
        record {
          shows = p.shows ∙ kept (newest families (winners cells)) ∙ ap (λ ws. filter (survives (cells ++ c ∷ [])) (newest families ws)) (sym same);
          counted = λ e a t. p.counted e (ahead_left cells c e a) (survived cells c e t) ∙ ap (λ ws. min (in_column_of ws e) (versions_of families e.family)) (sym same);
          first = λ e a t l. ap (λ ws. has_version ws e) same
              ∙ p.first e (ahead_left cells c e a) (survived cells c e t) (subst (λ ws. in_column_of ws e ≤ versions_of families e.family) same l);
          apart = apart_push families cells held shown family c p n;
          one = p.one;
          last_in = λ l i. member_left l cells (c ∷ []) (p.last_in l i);
        }
    by true w =
        let more : winners (cells ++ c ∷ []) ≡ winners cells ++ c ∷ [] = winners-push cells c o ∙ ap (λ b. winners cells ++ cond b (c ∷ []) []) w in
        record {
          shows =
              p.shows ∙ kept (newest families (winners cells))
              ∙ sym (append-none _)
              ∙ ap (λ xs. filter (survives (cells ++ c ∷ [])) (newest families (winners cells)) ++ xs) (sym (lost (survives cells c) refl w))
              ∙ sym (filter-append (survives (cells ++ c ∷ [])) (newest families (winners cells)) (cond (nat_lt (count_by (λ d. is_newer d c) (winners cells)) (versions_of families c.family)) (c ∷ []) []))
              ∙ ap (filter (survives (cells ++ c ∷ []))) (sym (newest-push families (winners cells) c (winners_ahead cells c o)) ∙ ap (newest families) (sym more));
          counted = λ e a t.
              p.counted e (ahead_left cells c e a) (survived cells c e t)
              ∙ grown e (ahead_left cells c e a) (ahead_last cells c e a) (survived cells c e t) w (same_column c e) refl
              ∙ ap (λ m. min m (versions_of families e.family)) (sym (count_push (λ d. same_column d e) (winners cells) c) ∙ ap (λ us. in_column_of us e) (sym more));
          first = λ e a t l.
              ap (λ us. has_version us e) more ∙ any-push (λ d. same_version d e) (winners cells) c
              ∙ first_of e (ahead_left cells c e a) (ahead_last cells c e a) (survived cells c e t) w (same_column c e) refl
              (subst (λ m. m ≤ versions_of families e.family) (ap (λ us. in_column_of us e) more ∙ count_push (λ d. same_column d e) (winners cells) c) l);
          apart = apart_push families cells held shown family c p n;
          one = p.one;
          last_in = λ l i. member_left l cells (c ∷ []) (p.last_in l i);
        }
