-- A change of a table keeps that regions hold their cells.
use Rattle.std.proofs.Common.{◌≡◌, ◌≢◌, ◌⊎◌, ℕ, ◌&&◌, ◌||◌, Bool, true, false, not, cond, List, [], ◌∷◌, Option, Some, None, refl, sym, ap, ◌∙◌, subst, inl, inr}
use Rattle.std.specs.Prelude.{option_map}
use Rattle.std.specs.List.{AllZip}
use Rattle.std.specs.FinMap.{get, insert}
use Rattle.cell_sight.specs.Member.{Member}
use Rattle.cell_sight.proofs.Members.{of_filter}
use Rattle.hb_cell.specs.declared.cell.Cell.{Cell}
use Rattle.hb_cell.specs.Order.{is_below, same_bytes}
use Rattle.hb_records.specs.declared.region_info.RegionInfo.{RegionInfo}
use Rattle.hb_records.specs.declared.table_schema.TableSchema.{TableSchema}
use Rattle.plain_model.specs.declared.event.Event.{Event}
use Rattle.plain_model.specs.declared.event.Event.TheVariants as event
use Rattle.plain_model.specs.declared.job.Job.{Job}
use Rattle.plain_model.specs.declared.job.Job.TheVariants as jobs
use Rattle.plain_model.specs.declared.parts.PlainSnapshot.{PlainSnapshot}
use Rattle.plain_model.specs.declared.parts.PlainTable.{PlainTable}
use Rattle.plain_model.specs.declared.parts.RegionCopy.{RegionCopy}
use Rattle.plain_model.specs.declared.region_key.RegionKey.{RegionKey}
use Rattle.plain_model.specs.After as plain
use Rattle.plain_model.specs.CellEvents.{cells_by_key, copies_of, from, numbers_by_key, under}
use Rattle.plain_model.specs.Keys.{encoded, key_at, key_of, same_key, set_at, set_each}
use Rattle.plain_model.specs.Laws.{LeavesRegion}
use Rattle.plain_model.specs.LiveEvents.{job_of}
use Rattle.plain_model.specs.Rows.{holds_row, is_before_end}
use Rattle.plain_model.specs.TableEvents.{is_one_of, schema_for, table_of, tables_on, with_copy, with_region, with_restored, with_split}
use Rattle.core_model.specs.declared.snapshot.CopiedRegion.{CopiedRegion}
use Rattle.core_model.specs.Actors.{InSet, IsRegion}
use Rattle.core_model.specs.SetGuards.{IsChange}
use Rattle.core_model.specs.Sound.{IsSound}
use Rattle.core_model.specs.State.{Parts}
use Rattle.core_sound.proofs.HoldsFound.{some_is}
use Rattle.core_sound.proofs.Lists.{get-taken}
use Rattle.core_sound.proofs.Sources.{each-member, map-member}
use Rattle.core_sound.proofs.TablesKept.{other_table, put_this}
use Rattle.core_sound.proofs.Tests.{same_bytes-true, same_key-true}
use Rattle.core_sound.proofs.Vacant.{each-new}
use Rattle.core_contents.specs.ContentFacts.{Copies}
use Rattle.core_contents.specs.Faithful.{IsFaithful}
use Rattle.core_contents.specs.PlanFacts.{IsPlan}
use Rattle.core_contents.proofs.ChangesLeave.{stays_alike}
use Rattle.core_contents.proofs.Tools.{set_here}
use Rattle.core_opens.specs.Fits.{EachTwo}
use Rattle.core_regions.specs.Cover.{CopiesBounds, HasBounds, IsCovered, table_in_copy}
use Rattle.core_regions.proofs.Counted.{of_put}
use Rattle.core_regions.proofs.Held.{changed_from}
use Rattle.core_cells.specs.Cells.{AreCellsOf, CopyHolds, HasCells, HoldsCells}
use Rattle.core_cells.proofs.Held.{copied_cells, high_cells, low_cells, no_cells}
use Rattle.core_cells.proofs.Regions.{Holds}

-- ---- regions that stay

region_there : (s : Parts) (t : List ℕ) (tb : PlainTable) (i : RegionInfo) (split : Bool) → IsSound s → get s.plain.tables t ≡ Some tb → Member (i, split) tb.regions → IsRegion s.plain.tables (key_of i)
region_there s t tb i split h e m = place split (record { table = tb; stands = ap (get s.plain.tables) (h.own_regions.at t tb i split e m) ∙ e; info = i; listed = m; key = refl })
  where
    place : (b : Bool) → InSet s.plain.tables (key_of i) b → IsRegion s.plain.tables (key_of i)
    place true z = inr z
    place false z = inl z

-- what a region holds that the change leaves alone
left_alone : (change : Event) (s : Parts) (tb : PlainTable) (i : RegionInfo) → LeavesRegion change s.plain (key_of i) → Holds s.plain tb i → Holds (plain.after change s.plain) tb i
left_alone change s tb i l h = subst (λ (v : List Cell). HoldsCells i tb.schema.families v ((plain.after change s.plain).mem (key_of i)) ((plain.after change s.plain).kept (key_of i)) ((plain.after change s.plain).seq (key_of i))) (sym l.stable)
    (subst (λ (v : List Cell). HoldsCells i tb.schema.families (s.plain.stable (key_of i)) v ((plain.after change s.plain).kept (key_of i)) ((plain.after change s.plain).seq (key_of i))) (sym l.mem)
    (subst (λ n. HoldsCells i tb.schema.families (s.plain.stable (key_of i)) (s.plain.mem (key_of i)) n ((plain.after change s.plain).seq (key_of i))) (sym l.kept)
    (subst (λ n. HoldsCells i tb.schema.families (s.plain.stable (key_of i)) (s.plain.mem (key_of i)) (s.plain.kept (key_of i)) n) (sym l.seq) h)))

old_region : (change : Event) (table : List ℕ) (a : ℕ) (s : Parts) (t : List ℕ) (tb : PlainTable) (i : RegionInfo) (split : Bool) → IsChange (job_of s.plain.live a) change table a s → IsSound s → HasCells s → get s.plain.tables t ≡ Some tb → Member (i, split) tb.regions → Holds (plain.after change s.plain) tb i
old_region change table a s t tb i split z h k e m = left_alone change s tb i (stays_alike (job_of s.plain.live a) change table a s (key_of i) z h (region_there s t tb i split h e m)) (k.regions.at t tb i split e m)

-- ---- a table that is made of nothing

made_region : (change : Event) (s : Parts) (tb : PlainTable) (i : RegionInfo) → (plain.after change s.plain).stable (key_of i) ≡ [] → (plain.after change s.plain).mem (key_of i) ≡ [] → (plain.after change s.plain).kept (key_of i) ≡ 0 → (plain.after change s.plain).seq (key_of i) ≡ 0
    → Holds (plain.after change s.plain) tb i
made_region change s tb i u v w x = held ((plain.after change s.plain).stable (key_of i)) [] ((plain.after change s.plain).mem (key_of i)) ((plain.after change s.plain).kept (key_of i)) 0 ((plain.after change s.plain).seq (key_of i)) u v w x (no_cells i tb.schema.families 0)
  where
    held : (a b c : List Cell) (m n o : ℕ) → a ≡ b → c ≡ [] → m ≡ n → o ≡ n → HoldsCells i tb.schema.families b [] n n → HoldsCells i tb.schema.families a c m o
    held a b c m n o p q r t h = subst (λ y. HoldsCells i tb.schema.families y c m o) (sym p) (subst (λ y. HoldsCells i tb.schema.families b y m o) (sym q) (subst (λ y. HoldsCells i tb.schema.families b [] y o) (sym r) (subst (λ y. HoldsCells i tb.schema.families b [] n y) (sym t) h)))

-- what new values give
pub new_region : (i : RegionInfo) (families : List (List ℕ × ℕ)) (stable mem cells : List Cell) (kept seq n : ℕ) → stable ≡ cells → mem ≡ [] → kept ≡ n → seq ≡ n → AreCellsOf i families n cells → HoldsCells i families stable mem kept seq
new_region i families stable mem cells kept seq n p q r t h = subst (λ y. HoldsCells i families y mem kept seq) (sym p) (subst (λ y. HoldsCells i families cells y kept seq) (sym q) (subst (λ y. HoldsCells i families cells [] y seq) (sym r) (subst (λ y. HoldsCells i families cells [] n y) (sym t) (copied_cells i families n cells h))))

-- a region of a table that is made is one that was asked for
made_of : (enabled : Bool) (schema : TableSchema) (regions : List RegionInfo) (tb : PlainTable) (i : RegionInfo) (split : Bool) → table_of enabled schema regions ≡ tb → Member (i, split) tb.regions → Member i regions × (schema.families ≡ tb.schema.families)
made_of enabled schema regions tb i split e m =
    let w = map-member (λ (r : RegionInfo). (r, false)) (i, split) regions (subst (λ (x : PlainTable). Member (i, split) x.regions) (sym e) m) in
    (subst (λ (j : RegionInfo). Member j regions) (ap (λ (x : RegionInfo × Bool). x.0) w.2) w.1, ap (λ (x : PlainTable). x.schema.families) e)

-- ---- copies

key_apart : (i j : RegionInfo) → encoded i ≢ encoded j → same_key (key_of j) (key_of i) ≡ false
key_apart i j n = (elim (same_key (key_of j) (key_of i)) as (λ b. same_key (key_of j) (key_of i) ≡ b → b ≡ false) [
  | true ↦ λ d. absurd (n (sym (ap (λ (r : RegionKey). r.region) (same_key-true (key_of j) (key_of i) d))))
  | false ↦ λ d. refl
]) refl

-- the copy of a region among new ones: its cells and its number are what stands at the region's key
pub record IsCopiedTo (families : List (List ℕ × ℕ)) (is : List RegionInfo) (cs : List RegionCopy) (i : RegionInfo) : Type 0 where
  pub copy : RegionCopy
  pub holds : AreCellsOf i families copy.number copy.cells
  pub cells : (f : RegionKey → List Cell) → set_each (cells_by_key is cs) f (key_of i) ≡ copy.cells
  pub numbers : (f : RegionKey → ℕ) → set_each (numbers_by_key is cs) f (key_of i) ≡ copy.number

in_bounds : (families : List (List ℕ × ℕ)) (i : RegionInfo) (r : CopiedRegion) (c : RegionCopy) → HasBounds i r → CopyHolds families r c → AreCellsOf i families c.number c.cells
in_bounds families i r c b h = record {
  each = λ x m. let y = h.each x m in record { versions = y.versions; known = y.known; row = moved x y.row; number = y.number };
  once = h.once;
}
  where
    moved : (x : Cell) → holds_row r.info x.row ≡ true → holds_row i x.row ≡ true
    moved x e = ap (λ (v : List ℕ). not (is_below x.row v) && is_before_end x.row i.end) b.start ∙ ap (λ (v : Option (List ℕ)). not (is_below x.row r.info.start) && is_before_end x.row v) b.end ∙ e

pub copied_to : (families : List (List ℕ × ℕ)) (is : List RegionInfo) (rs : List CopiedRegion) (cs : List RegionCopy) (i : RegionInfo) → AllZip HasBounds is rs → AllZip (CopyHolds families) rs cs → EachTwo (λ (u v : RegionInfo). encoded u ≢ encoded v) is → Member i is → IsCopiedTo families is cs i
copied_to families [] rs cs i b h d m = absurd m
copied_to families (j ∷ is) (r ∷ rs) (c ∷ cs) i b h d (inl e) = subst (IsCopiedTo families (j ∷ is) (c ∷ cs)) e (record {
  copy = c;
  holds = in_bounds families j r c b.0 h.0;
  cells = λ f. set_here (key_of j) c.cells (set_each (cells_by_key is cs) f);
  numbers = λ f. set_here (key_of j) c.number (set_each (numbers_by_key is cs) f);
})
copied_to families (j ∷ is) (r ∷ rs) (c ∷ cs) i b h d (inr m) =
    let w = copied_to families is rs cs i b.1 h.1 d.1 m in
    let n = key_apart j i (each-member (λ (v : RegionInfo). encoded j ≢ encoded v) is i d.0 m) in record {
      copy = w.copy;
      holds = w.holds;
      cells = λ f. ap (λ x. cond x c.cells (set_each (cells_by_key is cs) f (key_of i))) n ∙ w.cells f;
      numbers = λ f. ap (λ x. cond x c.number (set_each (numbers_by_key is cs) f (key_of i))) n ∙ w.numbers f;
    }
copied_to families (j ∷ is) (r ∷ rs) [] i b h d m = absurd h
copied_to families (j ∷ is) [] cs i b h d m = absurd b

-- the copy of a new region, of a snapshot that is there
copy_there : (s : Parts) (a : ℕ) (name : List ℕ) (regions : List RegionInfo) (y : PlainSnapshot) (i : RegionInfo) → IsFaithful s → HasCells s → CopiesBounds name (s.plans a) s.snapshots → get s.plain.snapshots name ≡ Some y → regions ≡ (s.plans a).regions → Member i regions
    → IsCopiedTo y.schema.families regions y.regions i
copy_there s a name regions y i f k c e z m =
    let fs : c.x.schema.families ≡ y.schema.families = (subst (Copies s.made (Some c.x)) e (subst (λ o. Copies s.made o (get s.plain.snapshots name)) c.stands (f.copies.at name))).0 in
    subst (λ v. IsCopiedTo v regions y.regions i) fs (copied_to c.x.schema.families regions c.x.regions y.regions i (subst (λ v. AllZip HasBounds v c.x.regions) (sym z) c.bounds)
    (k.snapshots.at name c.x y c.stands e) (subst (EachTwo (λ (u v : RegionInfo). encoded u ≢ encoded v)) (sym z) c.new.differ) m)

-- ---- a split

split_region : (s : Parts) (u parent : List ℕ) (low high i : RegionInfo) (split : Bool) (x : PlainTable) → Member (i, split) (with_region low (with_region high (with_split (parent ∷ []) x.regions)))
    → (low ≡ i) ⊎ ((high ≡ i) ⊎ ((b : Bool) × Member (i, b) x.regions))
split_region s u parent low high i split x m = elim (of_put low (i, split) _ m) [
  | inl e ↦ inl (ap (λ (y : RegionInfo × Bool). y.0) e)
  | inr n ↦ elim (of_put high (i, split) _ n) [
    | inl e ↦ inr (inl (ap (λ (y : RegionInfo × Bool). y.0) e))
    | inr k ↦ (let w = map-member (λ (r : RegionInfo × Bool). (r.0, r.1 || is_one_of (parent ∷ []) r)) (i, split) x.regions k in
        inr (inr (w.0.1, subst (λ (j : RegionInfo). Member (j, w.0.1) x.regions) (ap (λ (y : RegionInfo × Bool). y.0) w.2) w.1)))
  ]
]

-- ---- all changes

abbrev After : Event → Parts → PlainTable → RegionInfo → Type 0
After change s tb i = Holds (plain.after change s.plain) tb i

changed_holds : (job : Option Job) (change : Event) (table : List ℕ) (a : ℕ) (s : Parts) (tb : PlainTable) (i : RegionInfo) (split : Bool) → job_of s.plain.live a ≡ job → IsChange job change table a s → s.changed a table ≡ false → IsSound s → IsFaithful s → IsCovered s → HasCells s
    → get (tables_on change s.plain.snapshots s.plain.tables) table ≡ Some tb → Member (i, split) tb.regions → After change s tb i
changed_holds (Some (jobs.Create t fs n ks)) (event.Create schema regions) table a s tb i split j z c h f v k e m =
    let w : schema.table ≡ table = ap (λ (x : TableSchema). x.table) z.1 ∙ z.0 in
    let q = some_is (sym (put_this s.plain.tables schema.table (table_of true schema regions)) ∙ ap (get (insert s.plain.tables schema.table (table_of true schema regions))) w ∙ e) in
    let y = made_of true schema regions tb i split q m in
    made_region (event.Create schema regions) s tb i (each-new [] regions s.plain.stable i y.0) (each-new [] regions s.plain.mem i y.0) (each-new 0 regions s.plain.kept i y.0) (each-new 0 regions s.plain.seq i y.0)
changed_holds (Some (jobs.Enable t)) (event.Enable u) table a s tb i split j z c h f v k e m = let w = changed_from u _ s.plain.tables tb (ap (get (tables_on (event.Enable u) s.plain.snapshots s.plain.tables)) z.1 ∙ e) in
    subst (λ (x : PlainTable). Member (i, split) x.regions → After (event.Enable u) s x i) w.2 (λ n. k.regions.at u w.0 i split w.1 n) m
changed_holds (Some (jobs.Disable t)) (event.Disable u) table a s tb i split j z c h f v k e m = let w = changed_from u _ s.plain.tables tb (ap (get (tables_on (event.Disable u) s.plain.snapshots s.plain.tables)) z.1 ∙ e) in
    subst (λ (x : PlainTable). Member (i, split) x.regions → After (event.Disable u) s x i) w.2 (λ n. k.regions.at u w.0 i split w.1 n) m
changed_holds (Some (jobs.Drop t)) (event.Drop u) table a s tb i split j z c h f v k e m = get-taken s.plain.tables u table tb e (λ d q. k.regions.at table tb i split q m)
changed_holds (Some (jobs.Split t row)) (event.Split u parent low high) table a s tb i split j z c h f v k e m =
    let w = changed_from u _ s.plain.tables tb (ap (get (tables_on (event.Split u parent low high) s.plain.snapshots s.plain.tables)) z.1 ∙ e) in
    let d = v.plans.at a _ j low high (sym z.3) in
    let g = subst (λ o. IsPlan o a (s.plans a) s.plain.live s.plain.tables s.snapshots s.lists) j (f.exact.at a (λ q. let y : low ∷ high ∷ [] ≡ [] = z.3 ∙ q in absurd (cc))) in
    let key : key_of d.whole ≡ key_at u parent = g.alone (key_of d.whole) d.held ∙ sym (g.alone (key_at table parent) z.2) ∙ ap (λ x. key_at x parent) (sym z.1) in
    let lows : g.halves.low ≡ low = (let y : g.halves.low ∷ g.halves.high ∷ [] ≡ low ∷ high ∷ [] = sym g.halves.regions ∙ sym z.3 in cc) in
    let highs : g.halves.high ≡ high = (let y : g.halves.low ∷ g.halves.high ∷ [] ≡ low ∷ high ∷ [] = sym g.halves.regions ∙ sym z.3 in cc) in
    let apart : encoded low ≢ encoded high = λ y. g.halves.differ (ap encoded lows ∙ y ∙ sym (ap encoded highs)) in
    let there : get s.plain.tables u ≡ Some d.is_open.table = ap (get s.plain.tables) (sym (ap (λ (r : RegionKey). r.table) key)) ∙ d.is_open.stands in
    let whole : HoldsCells d.whole w.0.schema.families (s.plain.stable (key_at u parent)) (s.plain.mem (key_at u parent)) (s.plain.kept (key_at u parent)) (s.plain.seq (key_at u parent)) =
    subst (λ (r : RegionKey). HoldsCells d.whole w.0.schema.families (s.plain.stable r) (s.plain.mem r) (s.plain.kept r) (s.plain.seq r)) key
    (k.regions.at u w.0 d.whole false w.1 (subst (λ (x : PlainTable). Member (d.whole, false) x.regions) (some_is (sym there ∙ w.1)) d.is_open.listed)) in
    subst (λ (x : PlainTable). Member (i, split) x.regions → After (event.Split u parent low high) s x i) w.2 (λ n. elim (split_region s u parent low high i split w.0 n) [
      | inl q ↦ subst (λ (x : RegionInfo). HoldsCells x w.0.schema.families ((plain.after (event.Split u parent low high) s.plain).stable (key_of x)) ((plain.after (event.Split u parent low high) s.plain).mem (key_of x)) ((plain.after (event.Split u parent low high) s.plain).kept (key_of x)) ((plain.after (event.Split u parent low high) s.plain).seq (key_of x))) q
          (new_region low w.0.schema.families _ _ (under high.start (s.plain.stable (key_at u parent))) _ _ (s.plain.kept (key_at u parent)) (set_here (key_of low) (under high.start (s.plain.stable (key_at u parent))) (set_at (key_of high) (from high.start (s.plain.stable (key_at u parent))) s.plain.stable))
          (each-new [] (low ∷ high ∷ []) s.plain.mem low (inl refl)) (each-new (s.plain.kept (key_at u parent)) (low ∷ high ∷ []) s.plain.kept low (inl refl)) (each-new (s.plain.kept (key_at u parent)) (low ∷ high ∷ []) s.plain.seq low (inl refl))
          (low_cells d.whole low high w.0.schema.families (s.plain.kept (key_at u parent)) (s.plain.stable (key_at u parent)) d.halves whole.files))
      | inr o ↦ elim o [
        | inl q ↦ subst (λ (x : RegionInfo). HoldsCells x w.0.schema.families ((plain.after (event.Split u parent low high) s.plain).stable (key_of x)) ((plain.after (event.Split u parent low high) s.plain).mem (key_of x)) ((plain.after (event.Split u parent low high) s.plain).kept (key_of x)) ((plain.after (event.Split u parent low high) s.plain).seq (key_of x))) q
            (new_region high w.0.schema.families _ _ (from high.start (s.plain.stable (key_at u parent))) _ _ (s.plain.kept (key_at u parent))
            (ap (λ b. cond b (under high.start (s.plain.stable (key_at u parent))) (set_at (key_of high) (from high.start (s.plain.stable (key_at u parent))) s.plain.stable (key_of high))) (key_apart low high apart) ∙ set_here (key_of high) (from high.start (s.plain.stable (key_at u parent))) s.plain.stable)
            (each-new [] (low ∷ high ∷ []) s.plain.mem high (inr (inl refl))) (each-new (s.plain.kept (key_at u parent)) (low ∷ high ∷ []) s.plain.kept high (inr (inl refl))) (each-new (s.plain.kept (key_at u parent)) (low ∷ high ∷ []) s.plain.seq high (inr (inl refl)))
            (high_cells d.whole low high w.0.schema.families (s.plain.kept (key_at u parent)) (s.plain.stable (key_at u parent)) d.halves whole.files))
        | inr q ↦ old_region (event.Split u parent low high) table a s u w.0 i q.0 (subst (λ o. IsChange o (event.Split u parent low high) table a s) (sym j) z) h k w.1 q.1
      ]
    ]) m
changed_holds (Some (jobs.Clone name t)) (event.Clone b u regions) table a s tb i split j z c h f v k e m = by_copy (get s.plain.snapshots b) refl e
  where
    by_copy : (o : Option PlainSnapshot) → get s.plain.snapshots b ≡ o → get (with_copy u true regions o s.plain.tables) table ≡ Some tb → After (event.Clone b u regions) s tb i
    by_copy None x q = old_region (event.Clone b u regions) table a s table tb i split (subst (λ o. IsChange o (event.Clone b u regions) table a s) (sym j) z) h k q m
    by_copy (Some y) x q =
        let r = some_is (sym (put_this s.plain.tables u (table_of true (schema_for u y.schema) regions)) ∙ ap (get (insert s.plain.tables u (table_of true (schema_for u y.schema) regions))) z.1 ∙ q) in
        let w = made_of true (schema_for u y.schema) regions tb i split r m in
        let n = copy_there s a name regions y i f k (v.plans.at a _ j (ap (s.changed a) z.0 ∙ c)) (ap (get s.plain.snapshots) (sym z.2) ∙ x) z.3 w.0 in
        subst (λ fs. HoldsCells i fs ((plain.after (event.Clone b u regions) s.plain).stable (key_of i)) ((plain.after (event.Clone b u regions) s.plain).mem (key_of i)) ((plain.after (event.Clone b u regions) s.plain).kept (key_of i)) ((plain.after (event.Clone b u regions) s.plain).seq (key_of i))) w.1
        (new_region i y.schema.families _ _ n.copy.cells _ _ n.copy.number (ap (λ o. set_each (cells_by_key regions (copies_of o)) s.plain.stable (key_of i)) x ∙ n.cells s.plain.stable) (each-new [] regions s.plain.mem i w.0)
        (ap (λ o. set_each (numbers_by_key regions (copies_of o)) s.plain.kept (key_of i)) x ∙ n.numbers s.plain.kept) (ap (λ o. set_each (numbers_by_key regions (copies_of o)) s.plain.seq (key_of i)) x ∙ n.numbers s.plain.seq) n.holds)
changed_holds (Some (jobs.Restore name)) (event.Restore b regions) table a s tb i split j z c h f v k e m = by_copy (get s.plain.snapshots b) refl e
  where
    by_copy : (o : Option PlainSnapshot) → get s.plain.snapshots b ≡ o → get (with_restored regions o s.plain.tables) table ≡ Some tb → After (event.Restore b regions) s tb i
    by_copy None x q = old_region (event.Restore b regions) table a s table tb i split (subst (λ o. IsChange o (event.Restore b regions) table a s) (sym j) z) h k q m
    by_copy (Some y) x q =
        let g : get s.plain.snapshots name ≡ Some y = ap (get s.plain.snapshots) (sym z.0) ∙ x in
        let t : y.schema.table ≡ table = some_is (sym (ap (option_map (λ (l : PlainSnapshot). l.schema.table)) g) ∙ z.3) in
        let r = some_is (sym (put_this s.plain.tables y.schema.table (table_of false y.schema regions)) ∙ ap (get (insert s.plain.tables y.schema.table (table_of false y.schema regions))) t ∙ q) in
        let w = made_of false y.schema regions tb i split r m in
        let n = copy_there s a name regions y i f k (v.plans.at a _ j table (ap table_in_copy g ∙ ap Some t) c) g z.1 w.0 in
        subst (λ fs. HoldsCells i fs ((plain.after (event.Restore b regions) s.plain).stable (key_of i)) ((plain.after (event.Restore b regions) s.plain).mem (key_of i)) ((plain.after (event.Restore b regions) s.plain).kept (key_of i)) ((plain.after (event.Restore b regions) s.plain).seq (key_of i))) w.1
        (new_region i y.schema.families _ _ n.copy.cells _ _ n.copy.number (ap (λ o. set_each (cells_by_key regions (copies_of o)) s.plain.stable (key_of i)) x ∙ n.cells s.plain.stable) (each-new [] regions s.plain.mem i w.0)
        (ap (λ o. set_each (numbers_by_key regions (copies_of o)) s.plain.kept (key_of i)) x ∙ n.numbers s.plain.kept) (ap (λ o. set_each (numbers_by_key regions (copies_of o)) s.plain.seq (key_of i)) x ∙ n.numbers s.plain.seq) n.holds)
changed_holds (Some jobs.Janitor) (event.Remove t regions) table a s tb i split j z c h f v k e m =
    let w = changed_from t _ s.plain.tables tb (ap (get (tables_on (event.Remove t regions) s.plain.snapshots s.plain.tables)) z.0 ∙ e) in
    subst (λ (x : PlainTable). Member (i, split) x.regions → After (event.Remove t regions) s x i) w.2 (λ n. k.regions.at t w.0 i split w.1 (of_filter (λ (r : RegionInfo × Bool). not (is_one_of regions r)) (i, split) w.0.regions n).0) m
changed_holds _ _ table a s tb i split j z c h f v k e m = absurd z

pub change_holds : (change : Event) (table : List ℕ) (a : ℕ) (s : Parts) → IsChange (job_of s.plain.live a) change table a s → s.changed a table ≡ false → IsSound s → IsFaithful s → IsCovered s → HasCells s
    → (t : List ℕ) (tb : PlainTable) (i : RegionInfo) (split : Bool) → get (tables_on change s.plain.snapshots s.plain.tables) t ≡ Some tb → Member (i, split) tb.regions → After change s tb i
change_holds change table a s z c h f v k t tb i split e m = (elim (same_bytes t table) as (λ b. same_bytes t table ≡ b → After change s tb i) [
  | true ↦ λ d. changed_holds (job_of s.plain.live a) change table a s tb i split refl z c h f v k (ap (get (tables_on change s.plain.snapshots s.plain.tables)) (sym (same_bytes-true t table d)) ∙ e) m
  | false ↦ λ d. old_region change table a s t tb i split z h k (sym (other_table (job_of s.plain.live a) change table a s t z d) ∙ e) m
]) refl
