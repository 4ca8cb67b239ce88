-- Each step keeps that regions hold their cells, but for changes of tables.
use Rattle.std.proofs.Common.{◌≡◌, ℕ, ◌+◌, Bool, true, false, not, cond, List, [], ◌∷◌, ◌++◌, take, drop, Option, Some, refl, sym, ap, ◌∙◌, subst, inl, inr, arith}
use Rattle.std.specs.Prelude.{unwrap_or}
use Rattle.std.specs.List.{list_any}
use Rattle.std.specs.FinMap.{get}
use Rattle.cell_sight.specs.Member.{Member}
use Rattle.cell_sight.proofs.Truths.{any_some, turned}
use Rattle.hb_cell.specs.declared.cell.Cell.{Cell}
use Rattle.hb_cell.specs.Order.{same_bytes}
use Rattle.hb_records.specs.declared.region_info.RegionInfo.{RegionInfo}
use Rattle.plain_model.specs.declared.job.Job.TheVariants as jobs
use Rattle.plain_model.specs.declared.parts.PlainTable.{PlainTable}
use Rattle.plain_model.specs.declared.put_cell.PutCell.{PutCell}
use Rattle.plain_model.specs.declared.region_key.RegionKey.{RegionKey}
use Rattle.plain_model.specs.declared.reply.Reply.TheVariants as replies
use Rattle.plain_model.specs.CellEvents.{compacted, greatest}
use Rattle.plain_model.specs.Found.{families_of, families_of_table, has_family, is_enabled, is_table, open_in, region_with, regions_in}
use Rattle.plain_model.specs.Keys.{encoded, key_at, key_of, same_key}
use Rattle.plain_model.specs.Plain.{Plain}
use Rattle.plain_model.specs.Puts.{cell_put}
use Rattle.plain_model.specs.Replies.{no_files, refusals}
use Rattle.plain_model.specs.Rows.{holds_row, open_of}
use Rattle.core_model.specs.declared.entry.Entry.{Entry}
use Rattle.core_model.specs.declared.region_files.RegionFiles.{RegionFiles}
use Rattle.core_model.specs.Keys.{home}
use Rattle.core_model.specs.ListGuards.{Loads}
use Rattle.core_model.specs.Sound.{IsSound}
use Rattle.core_model.specs.StartGuards.{CanPut}
use Rattle.core_model.specs.State.{Parts}
use Rattle.core_sound.proofs.HoldsFound.{some_is}
use Rattle.core_sound.proofs.Lists.{map_some, member-find}
use Rattle.core_sound.proofs.Sources.{open-member}
use Rattle.core_sound.proofs.Tests.{same_bytes-true, same_key-true}
use Rattle.core_sound.proofs.Vacant.{Refuse, holds_not, not_when}
use Rattle.core_bytes.specs.Written.{IsWritten}
use Rattle.core_beside.specs.Apart.{IsBeside}
use Rattle.core_regions.specs.Cover.{IsCovered}
use Rattle.core_regions.proofs.Counted.{differ_same}
use Rattle.core_regions.proofs.Starts.{find-holds}
use Rattle.core_cells.specs.Cells.{HasCells, HoldsCells, IsCellOf, IsNumbered}
use Rattle.core_cells.proofs.Brought.{ComesOf, brought, brought_once, loaded_of}
use Rattle.core_cells.proofs.Held.{draw_cells, flush_cells, load_cells, major_cells, put_cells}

-- ---- regions of a table

-- what a table's region has at its key is its own: no other region of the table has the key
abbrev pub Holds : Plain → PlainTable → RegionInfo → Type 0
Holds p tb i = HoldsCells i tb.schema.families (p.stable (key_of i)) (p.mem (key_of i)) (p.kept (key_of i)) (p.seq (key_of i))

-- ---- a put

put_refuse : (p : Plain) (t : List ℕ) (put : PutCell) → Refuse (refusals no_files p (jobs.Put t put))
put_refuse p t put = (not_when (not (is_table p t)) replies.TableNotFound (λ z. absurd (cc)), (not_when (not (is_enabled p t)) replies.TableNotEnabled (λ z. absurd (cc)), (not_when (not (has_family p t put.family)) (replies.UnknownFamily put.family) (λ z. absurd (cc)), tt)))

family_known : (fs : List (List ℕ × ℕ)) (family : List ℕ) → list_any (λ (f : List ℕ × ℕ). same_bytes f.0 family) fs ≡ true → (n : ℕ) × Member (family, n) fs
family_known fs family e = let w = any_some (λ (f : List ℕ × ℕ). same_bytes f.0 family) fs e in
    (w.0.1, subst (λ (x : List ℕ). Member (x, w.0.1) fs) (same_bytes-true w.0.0 family w.2) w.1)

-- the region of the row is this one of the table
region_is : (p : Plain) (t row : List ℕ) (tb : PlainTable) (i j : RegionInfo) (split : Bool) (s : Parts) → IsCovered s → s.plain ≡ p → get p.tables t ≡ Some tb → region_with p t row ≡ Some j → Member (i, split) tb.regions → encoded j ≡ encoded i → holds_row i row ≡ true
region_is p t row tb i j split s k q e z m n =
    let o = subst (Member j) (ap (λ (x : Option PlainTable). open_of (regions_in x)) e) (member-find (λ r. holds_row r row) (open_in p t) j z) in
    let f = k.tables.at t tb (ap (λ (x : Plain). get x.tables t) q ∙ e) in
    let w = differ_same tb.regions (j, false) (i, split) f.differ (open-member j tb.regions o) m n in
    ap (λ (x : RegionInfo × Bool). holds_row x.0 row) (sym w) ∙ find-holds (λ r. holds_row r row) (open_in p t) j z

put_cell_of : (table : List ℕ) (put : PutCell) (moment : Option ℕ) (joined : List ℕ × ℕ) (s : Parts) (tb : PlainTable) (i : RegionInfo) (split : Bool) → CanPut table put moment (Some joined) s.plain → IsSound s → IsCovered s
    → get s.plain.tables i.table ≡ Some tb → Member (i, split) tb.regions → key_of i ≡ key_at table joined.0 → IsCellOf i tb.schema.families (s.plain.seq (key_at table joined.0) + 1) (cell_put put (unwrap_or moment 0) joined.1)
put_cell_of table put moment joined s tb i split a h k e m q =
    let t : i.table ≡ table = ap (λ (r : RegionKey). r.table) q in
    let there : get s.plain.tables table ≡ Some tb = ap (get s.plain.tables) (sym t) ∙ e in
    let known = family_known (families_of s.plain table) put.family (turned (has_family s.plain table put.family) (holds_not (not (has_family s.plain table put.family)) (replies.UnknownFamily put.family) (refusals no_files s.plain (jobs.Put table put)) (put_refuse s.plain table put) a.answered.0 (inr (inr (inl refl))))) in
    let w = map_some key_of (region_with s.plain table put.row) (key_at table joined.0) a.answered.1 in
    let n = a.answered.2 in
    record {
      versions = known.0;
      known = subst (Member (put.family, known.0)) (ap families_of_table there) known.1;
      row = region_is s.plain table put.row tb i w.0 split s k refl there w.1 m (ap (λ (r : RegionKey). r.region) (w.2 ∙ sym q));
      number = omega (arith, n);
    }

pub put_region : (table : List ℕ) (put : PutCell) (moment : Option ℕ) (joined : List ℕ × ℕ) (s : Parts) (tb : PlainTable) (i : RegionInfo) (split : Bool) → CanPut table put moment (Some joined) s.plain → IsSound s → IsCovered s → get s.plain.tables i.table ≡ Some tb → Member (i, split) tb.regions → Holds s.plain tb i
    → HoldsCells i tb.schema.families (s.plain.stable (key_of i)) (cond (same_key (key_of i) (key_at table joined.0)) (s.plain.mem (key_at table joined.0) ++ cell_put put (unwrap_or moment 0) joined.1 ∷ []) (s.plain.mem (key_of i))) (s.plain.kept (key_of i))
    (cond (same_key (key_of i) (key_at table joined.0)) (s.plain.seq (key_at table joined.0) + 1) (s.plain.seq (key_of i)))
put_region table put moment joined s tb i split a h k e m x = (elim (same_key (key_of i) (key_at table joined.0)) as (λ b. same_key (key_of i) (key_at table joined.0) ≡ b → HoldsCells i tb.schema.families (s.plain.stable (key_of i)) (cond b (s.plain.mem (key_at table joined.0) ++ cell_put put (unwrap_or moment 0) joined.1 ∷ []) (s.plain.mem (key_of i))) (s.plain.kept (key_of i)) (cond b (s.plain.seq (key_at table joined.0) + 1) (s.plain.seq (key_of i)))) [
  | true ↦ λ d.
      let q = same_key-true (key_of i) (key_at table joined.0) d in
      let c : Cell = cell_put put (unwrap_or moment 0) joined.1 in
      put_cells i tb.schema.families (s.plain.stable (key_of i)) (s.plain.mem (key_at table joined.0)) (s.plain.kept (key_of i)) (s.plain.seq (key_at table joined.0)) c (put_cell_of table put moment joined s tb i split a h k e m q) a.answered.2
      (subst (λ v. HoldsCells i tb.schema.families (s.plain.stable (key_of i)) (s.plain.mem v) (s.plain.kept (key_of i)) (s.plain.seq v)) q x)
  | false ↦ λ d. x
]) refl

pub draw_region : (r : RegionKey) (s : Parts) (tb : PlainTable) (i : RegionInfo) → Holds s.plain tb i
    → HoldsCells i tb.schema.families (s.plain.stable (key_of i)) (s.plain.mem (key_of i)) (s.plain.kept (key_of i)) (cond (same_key (key_of i) r) (s.plain.seq r + 1) (s.plain.seq (key_of i)))
draw_region r s tb i x = (elim (same_key (key_of i) r) as (λ b. same_key (key_of i) r ≡ b → HoldsCells i tb.schema.families (s.plain.stable (key_of i)) (s.plain.mem (key_of i)) (s.plain.kept (key_of i)) (cond b (s.plain.seq r + 1) (s.plain.seq (key_of i)))) [
  | true ↦ λ d. subst (λ v. HoldsCells i tb.schema.families (s.plain.stable (key_of i)) (s.plain.mem (key_of i)) (s.plain.kept (key_of i)) (s.plain.seq v + 1)) (same_key-true (key_of i) r d) (draw_cells i tb.schema.families (s.plain.stable (key_of i)) (s.plain.mem (key_of i)) (s.plain.kept (key_of i)) (s.plain.seq (key_of i)) x)
  | false ↦ λ d. x
]) refl

pub flush_region : (r : RegionKey) (s : Parts) (tb : PlainTable) (i : RegionInfo) → Holds s.plain tb i
    → HoldsCells i tb.schema.families (cond (same_key (key_of i) r) (s.plain.stable r ++ take (s.plain.frozen r) (s.plain.mem r)) (s.plain.stable (key_of i))) (cond (same_key (key_of i) r) (drop (s.plain.frozen r) (s.plain.mem r)) (s.plain.mem (key_of i)))
    (cond (same_key (key_of i) r) (greatest (s.plain.kept r) (take (s.plain.frozen r) (s.plain.mem r))) (s.plain.kept (key_of i))) (s.plain.seq (key_of i))
flush_region r s tb i x = (elim (same_key (key_of i) r) as (λ b. same_key (key_of i) r ≡ b → HoldsCells i tb.schema.families (cond b (s.plain.stable r ++ take (s.plain.frozen r) (s.plain.mem r)) (s.plain.stable (key_of i))) (cond b (drop (s.plain.frozen r) (s.plain.mem r)) (s.plain.mem (key_of i)))
    (cond b (greatest (s.plain.kept r) (take (s.plain.frozen r) (s.plain.mem r))) (s.plain.kept (key_of i))) (s.plain.seq (key_of i))) [
      | true ↦ λ d. subst (λ v. HoldsCells i tb.schema.families (s.plain.stable v ++ take (s.plain.frozen v) (s.plain.mem v)) (drop (s.plain.frozen v) (s.plain.mem v)) (greatest (s.plain.kept v) (take (s.plain.frozen v) (s.plain.mem v))) (s.plain.seq (key_of i))) (same_key-true (key_of i) r d)
          (flush_cells i tb.schema.families (s.plain.stable (key_of i)) (s.plain.mem (key_of i)) (s.plain.kept (key_of i)) (s.plain.seq (key_of i)) (s.plain.frozen (key_of i)) x)
      | false ↦ λ d. x
    ]) refl

pub major_region : (r : RegionKey) (fs : List (List ℕ × ℕ)) (n : ℕ) (s : Parts) (tb : PlainTable) (i : RegionInfo) → Holds s.plain tb i
    → HoldsCells i tb.schema.families (cond (same_key (key_of i) r) (compacted fs n (s.plain.stable r)) (s.plain.stable (key_of i))) (s.plain.mem (key_of i)) (s.plain.kept (key_of i)) (s.plain.seq (key_of i))
major_region r fs n s tb i x = (elim (same_key (key_of i) r) as (λ b. same_key (key_of i) r ≡ b → HoldsCells i tb.schema.families (cond b (compacted fs n (s.plain.stable r)) (s.plain.stable (key_of i))) (s.plain.mem (key_of i)) (s.plain.kept (key_of i)) (s.plain.seq (key_of i))) [
  | true ↦ λ d. subst (λ v. HoldsCells i tb.schema.families (compacted fs n (s.plain.stable v)) (s.plain.mem (key_of i)) (s.plain.kept (key_of i)) (s.plain.seq (key_of i))) (same_key-true (key_of i) r d)
      (major_cells i tb.schema.families fs (s.plain.stable (key_of i)) (s.plain.mem (key_of i)) (s.plain.kept (key_of i)) (s.plain.seq (key_of i)) n x)
  | false ↦ λ d. x
]) refl

-- ---- a load

pub load_region : (a : ℕ) (r : RegionKey) (l : RegionFiles) (cells : List Cell) (more : List (List ℕ × Entry)) (s : Parts) (tb : PlainTable) (i : RegionInfo) (split : Bool) → Loads a r l cells more s → IsWritten s → IsBeside s → IsCovered s → HasCells s → get s.plain.tables i.table ≡ Some tb → Member (i, split) tb.regions → Holds s.plain tb i
    → HoldsCells i tb.schema.families (cond (same_key (key_of i) r) (s.plain.stable r ++ cells) (s.plain.stable (key_of i))) (s.plain.mem (key_of i)) (cond (same_key (key_of i) r) (greatest (s.plain.kept r) cells) (s.plain.kept (key_of i))) (s.plain.seq (key_of i))
load_region a r l cells more s tb i split g w b v k e m x = (elim (same_key (key_of i) r) as (λ b. same_key (key_of i) r ≡ b → HoldsCells i tb.schema.families (cond b (s.plain.stable r ++ cells) (s.plain.stable (key_of i))) (s.plain.mem (key_of i)) (cond b (greatest (s.plain.kept r) cells) (s.plain.kept (key_of i))) (s.plain.seq (key_of i))) [
  | true ↦ λ d.
      let q = same_key-true (key_of i) r d in
      let of : (c : Cell) → Member c cells → ComesOf a r s g.folder g.is_open.info g.added c = λ c n. loaded_of a r l cells more s g k.bulk c n in
      let num : (c : Cell) (n : Member c cells) → IsNumbered (of c n).base a c.seq s.plain.live s.plain.tables (s.plain.stable (home (of c n).base)) (s.plain.mem (home (of c n).base)) (s.plain.seq (home (of c n).base)) = λ c n. (let y = of c n in k.loads.at y.base a c.seq y.waiting y.named) in
      let there : tb ≡ g.is_open.table = some_is (sym e ∙ ap (λ (z : RegionKey). get s.plain.tables z.table) q ∙ g.is_open.stands) in
      let here : g.is_open.info ≡ i = one_region s tb i g.is_open.info split v e m (subst (λ (z : PlainTable). Member (g.is_open.info, false) z.regions) (sym there) g.is_open.listed) (g.is_open.key ∙ sym q) in
      subst (λ z. HoldsCells i tb.schema.families (s.plain.stable z ++ cells) (s.plain.mem (key_of i)) (greatest (s.plain.kept z) cells) (s.plain.seq (key_of i))) q
      (load_cells i tb.schema.families (s.plain.stable (key_of i)) (s.plain.mem (key_of i)) (s.plain.kept (key_of i)) (s.plain.seq (key_of i)) cells
      (λ c n. let y = brought a r l cells more s g w k c n in let u = (num c n).drawn in let z = ap s.plain.seq ((of c n).region ∙ sym q) in record {
        versions = y.0;
        known = subst (λ (z : PlainTable). Member (c.family, y.0) z.schema.families) (sym there) y.1;
        row = ap (λ (z : RegionInfo). holds_row z c.row) (sym here) ∙ y.2;
        number = omega (arith, u, z);
      })
      (brought_once a r l cells more s g b k)
      (λ c b n o. (num c n).no_file b (subst (λ z. Member b (s.plain.stable z)) (q ∙ sym (of c n).region) o))
      (λ c b n o. (num c n).no_wait b (subst (λ z. Member b (s.plain.mem z)) (q ∙ sym (of c n).region) o)) x)
  | false ↦ λ d. x
]) refl
  where
    -- a table has one region of a key
    one_region : (s : Parts) (tb : PlainTable) (i j : RegionInfo) (split : Bool) → IsCovered s → get s.plain.tables i.table ≡ Some tb → Member (i, split) tb.regions → Member (j, false) tb.regions → key_of j ≡ key_of i → j ≡ i
    one_region s tb i j split v e m n q = ap (λ (z : RegionInfo × Bool). z.0) (differ_same tb.regions (j, false) (i, split) (v.tables.at i.table tb e).differ n m (ap (λ (z : RegionKey). z.region) q))
