-- Each step keeps that the numbers of files that wait for a load are new.
use Rattle.std.proofs.Common.{◌≡◌, ◌⊎◌, ℕ, ◌+◌, ◌==◌, Bool, true, false, cond, List, [], ◌∷◌, ◌++◌, take, drop, Option, Some, None, refl, sym, ap, ◌∙◌, subst, inl, inr, arith}
use Rattle.std.specs.Prelude.{map}
use Rattle.std.proofs.lemmas.List.{append_assoc}
use Rattle.cell_sight.specs.Member.{Member}
use Rattle.hb_cell.specs.declared.cell.Cell.{Cell}
use Rattle.hb_cell.specs.Order.{same_bytes}
use Rattle.hb_file_names.specs.FileParts.{sixteen_digits, suffix_text}
use Rattle.hb_layout.specs.declared.base.Base.{Base}
use Rattle.hb_records.specs.declared.region_info.RegionInfo.{RegionInfo}
use Rattle.plain_model.specs.declared.event.Event.{Event}
use Rattle.plain_model.specs.declared.hold.Hold.TheVariants as holds
use Rattle.plain_model.specs.declared.parts.Live.{Live}
use Rattle.plain_model.specs.declared.parts.PlainTable.{PlainTable}
use Rattle.plain_model.specs.declared.region_key.RegionKey.{RegionKey}
use Rattle.plain_model.specs.After as plain
use Rattle.plain_model.specs.CellEvents.{compacted}
use Rattle.plain_model.specs.Keys.{key_at, key_of, same_key}
use Rattle.plain_model.specs.Conflicts.{excludes}
use Rattle.plain_model.specs.LiveEvents.{job_of}
use Rattle.plain_model.specs.Names.{Names}
use Rattle.plain_model.specs.TableEvents.{tables_on}
use Rattle.core_model.specs.declared.entry.Entry.{Entry}
use Rattle.core_model.specs.declared.entry.Entry.TheVariants.{Own}
use Rattle.core_model.specs.declared.region_files.RegionFiles.{RegionFiles}
use Rattle.core_model.specs.declared.targets.MoveFrom.{MoveFrom}
use Rattle.core_model.specs.declared.targets.MoveFrom.TheVariants as moves
use Rattle.core_model.specs.Actors.{HasHold, IsRegion}
use Rattle.core_model.specs.Entries.{has_own, is_own_of, seq_of}
use Rattle.core_model.specs.FileGuards.{CanPlace, next_name}
use Rattle.core_model.specs.Keys.{home, same_base}
use Rattle.core_model.specs.ListGuards.{Loads}
use Rattle.core_model.specs.SetGuards.{IsChange}
use Rattle.core_model.specs.Sound.{IsSound}
use Rattle.core_model.specs.State.{Parts, Placed}
use Rattle.core_sound.proofs.HoldsFound.{some_is}
use Rattle.core_sound.proofs.Lists.{member-append, member-map, or_left, or_right}
use Rattle.core_sound.proofs.RegionsStay.{region_moved}
use Rattle.core_sound.proofs.TablesKept.{other_table}
use Rattle.core_sound.proofs.Tests.{cond_cases, same_base-self, same_base-true, same_bytes-true, same_key-true, same_number}
use Rattle.core_contents.proofs.ChangesLeave.{stays_alike}
use Rattle.core_regions.proofs.Held.{changer, other_held}
use Rattle.core_cells.specs.Cells.{BulkNumbered, HasCells, HoldsCells, IsNumbered, LoadsNumbered}
use Rattle.core_cells.proofs.Brought.{loaded_of}
use Rattle.core_cells.proofs.Held.{compacted_of, of_drop, of_take}
use Rattle.core_cells.proofs.Numbers.{numbered, unnumbered}

abbrev pub Numbered : Parts → Base → ℕ → ℕ → Type 0
Numbered s b a n = IsNumbered b a n s.plain.live s.plain.tables (s.plain.stable (home b)) (s.plain.mem (home b)) (s.plain.seq (home b))

-- what holds of the cells of a region at its key
at_key : (s : Parts) (r : RegionKey) → HasCells s → IsRegion s.plain.tables r → (P : Type 0) → ((tb : PlainTable) (i : RegionInfo) → key_of i ≡ r → HoldsCells i tb.schema.families (s.plain.stable r) (s.plain.mem r) (s.plain.kept r) (s.plain.seq r) → P) → P
at_key s r k (inl z) P f = f z.table z.info z.key (subst (λ q. HoldsCells z.info z.table.schema.families (s.plain.stable q) (s.plain.mem q) (s.plain.kept q) (s.plain.seq q)) z.key (k.regions.at r.table z.table z.info false z.stands z.listed))
at_key s r k (inr z) P f = f z.table z.info z.key (subst (λ q. HoldsCells z.info z.table.schema.families (s.plain.stable q) (s.plain.mem q) (s.plain.kept q) (s.plain.seq q)) z.key (k.regions.at r.table z.table z.info true z.stands z.listed))

-- ---- puts, draws, flushes, loads and compactions

pub put_new : (table : List ℕ) (joined : List ℕ × ℕ) (c : Cell) (s : Parts) (b : Base) (a n : ℕ) → c.seq ≡ s.plain.seq (key_at table joined.0) + 1 → Numbered s b a n
    → IsNumbered b a n s.plain.live s.plain.tables (s.plain.stable (home b)) (cond (same_key (home b) (key_at table joined.0)) (s.plain.mem (key_at table joined.0) ++ c ∷ []) (s.plain.mem (home b))) (cond (same_key (home b) (key_at table joined.0)) (s.plain.seq (key_at table joined.0) + 1) (s.plain.seq (home b)))
put_new table joined c s b a n e h = (elim (same_key (home b) (key_at table joined.0)) as (λ x. same_key (home b) (key_at table joined.0) ≡ x → IsNumbered b a n s.plain.live s.plain.tables (s.plain.stable (home b)) (cond x (s.plain.mem (key_at table joined.0) ++ c ∷ []) (s.plain.mem (home b))) (cond x (s.plain.seq (key_at table joined.0) + 1) (s.plain.seq (home b)))) [
  | true ↦ λ d. let q = same_key-true (home b) (key_at table joined.0) d in let u = h.drawn in let v = ap s.plain.seq q in record {
    load = h.load;
    region = h.region;
    drawn = omega (arith, u, v);
    no_file = h.no_file;
    no_wait = λ x m z. elim (member-append x (s.plain.mem (key_at table joined.0)) (c ∷ []) m) [
      | inl k ↦ h.no_wait x (subst (λ r. Member x (s.plain.mem r)) (sym q) k) z
      | inr k ↦ elim k [ inl w ↦ (let y = ap (λ (g : Cell). g.seq) w in absurd (omega (arith, u, v, y, z, e))) | inr w ↦ absurd w ]
    ];
  }
  | false ↦ λ d. h
]) refl

pub draw_new : (r : RegionKey) (s : Parts) (b : Base) (a n : ℕ) → Numbered s b a n → IsNumbered b a n s.plain.live s.plain.tables (s.plain.stable (home b)) (s.plain.mem (home b)) (cond (same_key (home b) r) (s.plain.seq r + 1) (s.plain.seq (home b)))
draw_new r s b a n h = (elim (same_key (home b) r) as (λ x. same_key (home b) r ≡ x → IsNumbered b a n s.plain.live s.plain.tables (s.plain.stable (home b)) (s.plain.mem (home b)) (cond x (s.plain.seq r + 1) (s.plain.seq (home b)))) [
  | true ↦ λ d. let u = h.drawn in let v = ap s.plain.seq (same_key-true (home b) r d) in record { load = h.load; region = h.region; drawn = omega (arith, u, v); no_file = h.no_file; no_wait = h.no_wait }
  | false ↦ λ d. h
]) refl

pub flush_new : (r : RegionKey) (s : Parts) (b : Base) (a n : ℕ) → Numbered s b a n
    → IsNumbered b a n s.plain.live s.plain.tables (cond (same_key (home b) r) (s.plain.stable r ++ take (s.plain.frozen r) (s.plain.mem r)) (s.plain.stable (home b))) (cond (same_key (home b) r) (drop (s.plain.frozen r) (s.plain.mem r)) (s.plain.mem (home b))) (s.plain.seq (home b))
flush_new r s b a n h = (elim (same_key (home b) r) as (λ x. same_key (home b) r ≡ x → IsNumbered b a n s.plain.live s.plain.tables (cond x (s.plain.stable r ++ take (s.plain.frozen r) (s.plain.mem r)) (s.plain.stable (home b))) (cond x (drop (s.plain.frozen r) (s.plain.mem r)) (s.plain.mem (home b))) (s.plain.seq (home b))) [
  | true ↦ λ d. let q = same_key-true (home b) r d in record {
    load = h.load;
    region = h.region;
    drawn = h.drawn;
    no_file = λ c m. elim (member-append c (s.plain.stable r) (take (s.plain.frozen r) (s.plain.mem r)) m) [
      | inl k ↦ h.no_file c (subst (λ v. Member c (s.plain.stable v)) (sym q) k)
      | inr k ↦ h.no_wait c (subst (λ v. Member c (s.plain.mem v)) (sym q) (of_take (s.plain.frozen r) c (s.plain.mem r) k))
    ];
    no_wait = λ c m. h.no_wait c (subst (λ v. Member c (s.plain.mem v)) (sym q) (of_drop (s.plain.frozen r) c (s.plain.mem r) m));
  }
  | false ↦ λ d. h
]) refl

pub major_new : (r : RegionKey) (fs : List (List ℕ × ℕ)) (m : ℕ) (s : Parts) (b : Base) (a n : ℕ) → Numbered s b a n
    → IsNumbered b a n s.plain.live s.plain.tables (cond (same_key (home b) r) (compacted fs m (s.plain.stable r)) (s.plain.stable (home b))) (s.plain.mem (home b)) (s.plain.seq (home b))
major_new r fs m s b a n h = (elim (same_key (home b) r) as (λ x. same_key (home b) r ≡ x → IsNumbered b a n s.plain.live s.plain.tables (cond x (compacted fs m (s.plain.stable r)) (s.plain.stable (home b))) (s.plain.mem (home b)) (s.plain.seq (home b))) [
  | true ↦ λ d. let q = same_key-true (home b) r d in record { load = h.load; region = h.region; drawn = h.drawn; no_file = λ c i. h.no_file c (subst (λ v. Member c (s.plain.stable v)) (sym q) (compacted_of fs m (s.plain.stable r) c i)); no_wait = h.no_wait }
  | false ↦ λ d. h
]) refl

own_there : (b : Base) (bs : List Base) (es : List Entry) → ((e : Entry) → Member e (map Own bs) → Member e es) → Member b bs → has_own es b ≡ true
own_there b bs es f m = owned es (f (Own b) (member-map Own b bs m))
  where
    owned : (xs : List Entry) → Member (Own b) xs → has_own xs b ≡ true
    owned [] k = absurd k
    owned (x ∷ xs) (inl e) = or_left (is_own_of b x) _ (ap (is_own_of b) e ∙ same_base-self b)
    owned (x ∷ xs) (inr k) = or_right (is_own_of b x) _ (owned xs k)

pub load_new : (e : ℕ) (r : RegionKey) (l : RegionFiles) (cells : List Cell) (more : List (List ℕ × Entry)) (s : Parts) (b : Base) (a n : ℕ) → Loads e r l cells more s → HasCells s → has_own l.entries b ≡ false → s.waiting b ≡ Some a → seq_of b.name ≡ Some n → Numbered s b a n
    → IsNumbered b a n s.plain.live s.plain.tables (cond (same_key (home b) r) (s.plain.stable r ++ cells) (s.plain.stable (home b))) (s.plain.mem (home b)) (s.plain.seq (home b))
load_new e r l cells more s b a n g k o w x h = (elim (same_key (home b) r) as (λ y. same_key (home b) r ≡ y → IsNumbered b a n s.plain.live s.plain.tables (cond y (s.plain.stable r ++ cells) (s.plain.stable (home b))) (s.plain.mem (home b)) (s.plain.seq (home b))) [
  | true ↦ λ d. let q = same_key-true (home b) r d in record {
    load = h.load;
    region = h.region;
    drawn = h.drawn;
    no_file = λ c m z. elim (member-append c (s.plain.stable r) cells m) [
      | inl i ↦ h.no_file c (subst (λ v. Member c (s.plain.stable v)) (sym q) i) z
      | inr i ↦ (let v = loaded_of e r l cells more s g k.bulk c i in
          let same : v.base ≡ b = k.loads.apart v.base b e a n v.waiting w (v.region ∙ sym q) (v.named ∙ ap Some z) x in
          let y : true ≡ false = sym (own_there b g.added l.entries (λ u j. subst (Member u) (sym g.entries) (behind u (s.lists r).entries (map Own g.added) j)) (subst (λ u. Member u g.added) same v.listed)) ∙ o in absurd (cc))
    ];
    no_wait = h.no_wait;
  }
  | false ↦ λ d. h
]) refl
  where
    behind : (u : Entry) (xs ys : List Entry) → Member u ys → Member u (xs ++ ys)
    behind u [] ys m = m
    behind u (x ∷ xs) ys m = inr (behind u xs ys m)

-- ---- a change of a table

-- who changes a table is no load of it, so the change is of another table than that of a file that waits for a load
pub change_new : (change : Event) (table : List ℕ) (e : ℕ) (s : Parts) (b : Base) (a n : ℕ) → IsChange (job_of s.plain.live e) change table e s → IsSound s → Numbered s b a n
    → IsNumbered b a n s.plain.live (tables_on change s.plain.snapshots s.plain.tables) ((plain.after change s.plain).stable (home b)) ((plain.after change s.plain).mem (home b)) ((plain.after change s.plain).seq (home b))
change_new change table e s b a n z h k =
    let l = stays_alike (job_of s.plain.live e) change table e s (home b) z h k.region in
    let d : same_bytes b.table table ≡ false = apart (same_bytes b.table table) refl in
    subst (λ v. IsNumbered b a n s.plain.live (tables_on change s.plain.snapshots s.plain.tables) v ((plain.after change s.plain).mem (home b)) ((plain.after change s.plain).seq (home b))) (sym l.stable)
    (subst (λ v. IsNumbered b a n s.plain.live (tables_on change s.plain.snapshots s.plain.tables) (s.plain.stable (home b)) v ((plain.after change s.plain).seq (home b))) (sym l.mem)
    (subst (λ v. IsNumbered b a n s.plain.live (tables_on change s.plain.snapshots s.plain.tables) (s.plain.stable (home b)) (s.plain.mem (home b)) v) (sym l.seq)
    (record { load = k.load; region = region_moved s.plain.tables _ (home b) (sym (other_table (job_of s.plain.live e) change table e s b.table z d)) k.region; drawn = k.drawn; no_file = k.no_file; no_wait = k.no_wait })))
  where
    apart : (x : Bool) → same_bytes b.table table ≡ x → same_bytes b.table table ≡ false
    apart true q = (let c = changer (job_of s.plain.live e) change table e s refl z h in
        other_held s e a table (holds.Load b.table) h c k.load (c.no_load b.table) (ap (λ t. excludes c.hold (holds.Load t)) (same_bytes-true b.table table q) ∙ c.not_load))
    apart false q = q

-- ---- a file that is placed

-- a written name with a number behind it
suffixed : (epoch k : ℕ) (o : Option ℕ) → next_name epoch k None ++ suffix_text o ≡ next_name epoch k o
suffixed epoch k o = append_assoc (sixteen_digits epoch) (sixteen_digits (k + 1) ++ suffix_text None) (suffix_text o)
    ∙ ap (λ x. sixteen_digits epoch ++ x) (append_assoc (sixteen_digits (k + 1)) (suffix_text None) (suffix_text o))

-- a file that was placed for no load has no number
pub written_none : (name : List ℕ) (a : ℕ) (b : Base) (cells : List Cell) (s : Parts) → CanPlace a (moves.Written name) b cells s → IsSound s → (n : ℕ) → seq_of b.name ≡ Some n → ⊥
written_none name a b cells s g h n e =
    let w = h.known_tmps.at name _ g.moved.wrote.known in
    let z : None ≡ Some n = sym (ap seq_of (g.moved.named ∙ w.1) ∙ unnumbered s.epoch w.0) ∙ e in absurd (cc)

-- the number in a placed name
placed_number : (source : MoveFrom) (a : ℕ) (b : Base) (cells : List Cell) (s : Parts) → CanPlace a source b cells s → IsSound s → (n : ℕ) → seq_of b.name ≡ Some n → (n ≡ s.plain.seq (home b) + 1) × HasHold s.plain.live a (holds.Load b.table)
placed_number (moves.Written name) a b cells s g h n e = absurd (written_none name a b cells s g h n e)
placed_number (moves.WrittenBulk name) a b cells s g h n e =
    let w = h.known_tmps.at name _ g.moved.wrote.known in
    let m = g.number in
    let z = ap seq_of (g.moved.named ∙ ap (λ v. v ++ suffix_text (Some (s.plain.seq (home b) + 1))) w.1 ∙ suffixed s.epoch w.0 (Some (s.plain.seq (home b) + 1))) ∙ numbered s.epoch w.0 (s.plain.seq (home b) + 1) (omega (arith, m)) in
    (some_is (sym e ∙ z), g.moved.load)
placed_number (moves.StagedBulk folder name) a b cells s g h n e =
    let m = g.number in
    (some_is (sym e ∙ ap seq_of g.moved.named ∙ numbered s.epoch s.files (s.plain.seq (home b) + 1) (omega (arith, m))), g.moved.load)

-- it is new: the cells of its region have lower numbers
placed_new : (source : MoveFrom) (a : ℕ) (b : Base) (cells : List Cell) (s : Parts) → CanPlace a source b cells s → IsSound s → HasCells s → (n : ℕ) → seq_of b.name ≡ Some n
    → IsNumbered b a n s.plain.live s.plain.tables (s.plain.stable (home b)) (s.plain.mem (home b)) (s.plain.seq (home b) + 1)
placed_new source a b cells s g h k n e = let m = placed_number source a b cells s g h n e in let q = m.0 in record {
  load = m.1;
  region = g.region;
  drawn = omega (arith, q);
  no_file = λ c i z. at_key s (home b) k g.region ⊥ (λ tb j y x. let u = (x.files.each c i).number in let v = x.below in absurd (omega (arith, q, z, u, v)));
  no_wait = λ c i z. at_key s (home b) k g.region ⊥ (λ tb j y x. let u = (x.waits c i).number in absurd (omega (arith, q, z, u)));
}

abbrev Waits : Base → ℕ → (Base → Option ℕ) → Base → Option ℕ
Waits base a waiting = λ b. cond (same_base b base) (Some a) (waiting b)

pub place_loads : (source : MoveFrom) (e : ℕ) (base : Base) (cells : List Cell) (s : Parts) (seq : RegionKey → ℕ) → CanPlace e source base cells s → IsSound s → HasCells s → ((b : Base) (a n : ℕ) → Numbered s b a n → IsNumbered b a n s.plain.live s.plain.tables (s.plain.stable (home b)) (s.plain.mem (home b)) (seq (home b)))
    → ((n : ℕ) → seq_of base.name ≡ Some n → seq (home base) ≡ s.plain.seq (home base) + 1) → LoadsNumbered (Waits base e s.waiting) s.plain.live s.plain.tables s.plain.stable s.plain.mem seq
place_loads source e base cells s seq g h k f q = record {
  at = λ b a n w x. cond_cases (same_base b base) (Some e) (s.waiting b) (Some a) w
      (λ d i. let y = same_base-true b base d in subst (λ v. IsNumbered v a n s.plain.live s.plain.tables (s.plain.stable (home v)) (s.plain.mem (home v)) (seq (home v))) (sym y)
      (subst (λ v. IsNumbered base v n s.plain.live s.plain.tables (s.plain.stable (home base)) (s.plain.mem (home base)) (seq (home base))) (some_is i) (let z = ap (λ (c : Base). seq_of c.name) (sym y) ∙ x in
      subst (λ v. IsNumbered base e n s.plain.live s.plain.tables (s.plain.stable (home base)) (s.plain.mem (home base)) v) (sym (q n z)) (placed_new source e base cells s g h k n z))))
      (λ d i. f b a n (k.loads.at b a n i x));
  apart = λ b c a w n x y r u v. cond_cases (same_base b base) (Some e) (s.waiting b) (Some a) x
      (λ d i. cond_cases (same_base c base) (Some e) (s.waiting c) (Some w) y (λ o j. same_base-true b base d ∙ sym (same_base-true c base o))
      (λ o j. absurd (clash c b w n j (sym r ∙ ap home (same_base-true b base d)) v (ap (λ (z : Base). seq_of z.name) (sym (same_base-true b base d)) ∙ u))))
      (λ d i. cond_cases (same_base c base) (Some e) (s.waiting c) (Some w) y
      (λ o j. absurd (clash b c a n i (r ∙ ap home (same_base-true c base o)) u (ap (λ (z : Base). seq_of z.name) (sym (same_base-true c base o)) ∙ v)))
      (λ o j. k.loads.apart b c a w n i j r u v));
}
  where
    -- the number of another that waits is not above what was drawn
    clash : (b c : Base) (a n : ℕ) → s.waiting b ≡ Some a → home b ≡ home base → seq_of b.name ≡ Some n → seq_of base.name ≡ Some n → ⊥
    clash b c a n w r u v = let z = (k.loads.at b a n w u).drawn in let y = ap s.plain.seq r in let x = (placed_number source e base cells s g h n v).0 in absurd (omega (arith, z, y, x))

-- ---- who waits less

pub fewer_loads : (waiting less : Base → Option ℕ) (live next : List Live) (tables others : Names PlainTable) (stable mem more rest : RegionKey → List Cell) (seq later : RegionKey → ℕ) → ((b : Base) (a : ℕ) → less b ≡ Some a → waiting b ≡ Some a)
    → ((b : Base) (a n : ℕ) → less b ≡ Some a → seq_of b.name ≡ Some n → IsNumbered b a n live tables (stable (home b)) (mem (home b)) (seq (home b)) → IsNumbered b a n next others (more (home b)) (rest (home b)) (later (home b)))
    → LoadsNumbered waiting live tables stable mem seq → LoadsNumbered less next others more rest later
fewer_loads waiting less live next tables others stable mem more rest seq later f g h = record {
  at = λ b a n w x. g b a n w x (h.at b a n (f b a w) x);
  apart = λ b c a e n w x r u v. h.apart b c a e n (f b a w) (f c e x) r u v;
}

-- ---- placed names

abbrev pub as_placed : Base → MoveFrom → Placed
as_placed b v = record { base = b; from = v }

pub placed_was : (actor : ℕ) (source : MoveFrom) (base : Base) (s : Parts) (w : ℕ) (x : Placed) → Member x (cond (w == actor) (s.placed actor ++ record { base = base; from = source } ∷ []) (s.placed w)) → Member x (s.placed w) ⊎ (as_placed base source ≡ x)
placed_was actor source base s w x m = (elim (w == actor) as (λ b. w == actor ≡ b → Member x (cond b (s.placed actor ++ record { base = base; from = source } ∷ []) (s.placed w)) → Member x (s.placed w) ⊎ (as_placed base source ≡ x)) [
  | true ↦ λ d n. elim (member-append x (s.placed actor) (record { base = base; from = source } ∷ []) n) [
    | inl i ↦ inl (subst (λ v. Member x (s.placed v)) (sym (same_number w actor d)) i)
    | inr i ↦ elim i [ inl e ↦ inr e | inr z ↦ absurd z ]
  ]
  | false ↦ λ d n. inl n
]) refl m

pub placed_less : (c : Bool) (xs : List Placed) (x : Placed) → Member x (cond c [] xs) → Member x xs
placed_less true xs x m = absurd m
placed_less false xs x m = m

pub bulk_kept : (actor : ℕ) (source : MoveFrom) (base : Base) (cells : List Cell) (s : Parts) → CanPlace actor source base cells s → IsSound s → HasCells s → BulkNumbered (λ w. cond (w == actor) (s.placed actor ++ record { base = base; from = source } ∷ []) (s.placed w))
bulk_kept actor source base cells s g h k = record {
  whole = λ w b folder name m. elim (placed_was actor source base s w (record { base = b; from = moves.StagedBulk folder name }) m) [ inl i ↦ k.bulk.whole w b folder name i | inr i ↦ whole_of source g b folder name i ];
  cut = λ w b name m. elim (placed_was actor source base s w (record { base = b; from = moves.WrittenBulk name }) m) [ inl i ↦ k.bulk.cut w b name i | inr i ↦ cut_of source g b name i ];
}
  where
    whole_of : (v : MoveFrom) → CanPlace actor v base cells s → (b : Base) (folder name : List ℕ) → as_placed base v ≡ as_placed b (moves.StagedBulk folder name) → (n : ℕ) × (seq_of b.name ≡ Some n)
    whole_of (moves.StagedBulk d m) p b folder name e = let q = p.number in (s.plain.seq (home base) + 1, ap (λ (x : Placed). seq_of x.base.name) (sym e) ∙ ap seq_of p.moved.named ∙ numbered s.epoch s.files (s.plain.seq (home base) + 1) (omega (arith, q)))
    whole_of (moves.WrittenBulk m) p b folder name e = absurd (not_whole (ap (λ (x : Placed). x.from) e))
      where
        not_whole : moves.WrittenBulk m ≡ moves.StagedBulk folder name → ⊥
        not_whole z = absurd (cc)
    whole_of (moves.Written m) p b folder name e = absurd (not_whole (ap (λ (x : Placed). x.from) e))
      where
        not_whole : moves.Written m ≡ moves.StagedBulk folder name → ⊥
        not_whole z = absurd (cc)

    cut_of : (v : MoveFrom) → CanPlace actor v base cells s → (b : Base) (name : List ℕ) → as_placed base v ≡ as_placed b (moves.WrittenBulk name) → (n : ℕ) × (seq_of b.name ≡ Some n)
    cut_of (moves.WrittenBulk m) p b name e =
        let w = h.known_tmps.at m _ p.moved.wrote.known in
        let q = p.number in
        (s.plain.seq (home base) + 1, ap (λ (x : Placed). seq_of x.base.name) (sym e) ∙ ap seq_of (p.moved.named ∙ ap (λ v. v ++ suffix_text (Some (s.plain.seq (home base) + 1))) w.1 ∙ suffixed s.epoch w.0 (Some (s.plain.seq (home base) + 1))) ∙ numbered s.epoch w.0 (s.plain.seq (home base) + 1) (omega (arith, q)))
    cut_of (moves.StagedBulk d m) p b name e = absurd (not_cut (ap (λ (x : Placed). x.from) e))
      where
        not_cut : moves.StagedBulk d m ≡ moves.WrittenBulk name → ⊥
        not_cut z = absurd (cc)
    cut_of (moves.Written m) p b name e = absurd (not_cut (ap (λ (x : Placed). x.from) e))
      where
        not_cut : moves.Written m ≡ moves.WrittenBulk name → ⊥
        not_cut z = absurd (cc)
