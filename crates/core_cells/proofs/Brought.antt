-- The cells that a load brings are of its table and its region, and differ.
use Rattle.std.proofs.Common.{◌≡◌, ◌≢◌, ℕ, Bool, true, false, List, [], ◌∷◌, Option, Some, None, refl, sym, ap, ◌∙◌, subst, inl, inr, arith}
use Rattle.std.specs.Prelude.{map, unwrap_or}
use Rattle.std.specs.List.{AllByRecursion}
use Rattle.cell_sight.specs.Member.{Member}
use Rattle.cell_sight.proofs.Members.{of_all, of_filter}
use Rattle.hb_cell.specs.declared.cell.Cell.{Cell}
use Rattle.hb_cell.specs.Order.{same_bytes}
use Rattle.hb_layout.specs.declared.base.Base.{Base}
use Rattle.hb_records.specs.declared.region_info.RegionInfo.{RegionInfo}
use Rattle.plain_model.specs.declared.region_key.RegionKey.{RegionKey}
use Rattle.plain_model.specs.Rows.{holds_row}
use Rattle.core_model.specs.declared.entry.Entry.{Entry}
use Rattle.core_model.specs.declared.entry.Entry.TheVariants.{Own}
use Rattle.core_model.specs.declared.region_files.RegionFiles.{RegionFiles}
use Rattle.core_model.specs.declared.targets.MoveFrom.{MoveFrom}
use Rattle.core_model.specs.declared.targets.MoveFrom.TheVariants as moves
use Rattle.core_model.specs.BulkParts.{ComesFrom, IsPartFile, is_whole, parts_of}
use Rattle.core_model.specs.Entries.{Made, cells_in, cells_of, seq_of, serves, stem, with_seq}
use Rattle.core_model.specs.Keys.{home}
use Rattle.core_model.specs.ListGuards.{FitsFamily, HasKnownFamily, HasNoDouble, Loads}
use Rattle.core_model.specs.Recipes.{staged_cells}
use Rattle.core_model.specs.State.{Parts}
use Rattle.core_sound.proofs.HoldsFound.{some_is}
use Rattle.core_sound.proofs.Sources.{each-member, map-member, zip-member}
use Rattle.core_sound.proofs.Tests.{same_bytes-self}
use Rattle.core_bytes.specs.FileOf.{GivesCells}
use Rattle.core_bytes.specs.Written.{IsWritten}
use Rattle.core_contents.proofs.Majored.{cell-entry}
use Rattle.core_opens.specs.Fits.{EachTwo}
use Rattle.core_beside.specs.Apart.{IsBeside}
use Rattle.core_beside.proofs.Loaded.{added_differ}
use Rattle.core_cells.specs.Cells.{AreOnce, BulkNumbered, HasCells}
use Rattle.core_cells.proofs.Held.{once-append}

-- ---- where a cell comes from

-- a file of a load has a number in its name
part_numbered : (a : ℕ) (folder : List ℕ) (i : RegionInfo) (f : List ℕ × List ℕ) (b : Base) (s : Parts) → BulkNumbered s.placed → IsPartFile a folder i f b s → (n : ℕ) × (seq_of b.name ≡ Some n)
part_numbered a folder i f b s h x = by_source x.source (is_whole s.staged folder i f) x.placed x.comes
  where
    by_source : (source : MoveFrom) (whole : Bool) → Member (record { base = b; from = source }) (s.placed a) → ComesFrom source whole folder i f s.written → (n : ℕ) × (seq_of b.name ≡ Some n)
    by_source (moves.StagedBulk d name) whole m c = h.whole a b d name m
    by_source (moves.WrittenBulk name) whole m c = h.cut a b name m
    by_source (moves.Written name) true m c = absurd c
    by_source (moves.Written name) false m c = absurd c

-- a cell of it has this number
own_number : (o : Option ℕ) (n : ℕ) (c d : Cell) → o ≡ Some n → with_seq o c ≡ d → d.seq ≡ n
own_number (Some m) n c d e z = ap (λ (x : Cell). x.seq) (sym z) ∙ some_is e
own_number None n c d e z = absurd (cc)

-- the file of a load from which a cell comes, and the cell in it
pub record ComesOf (a : ℕ) (r : RegionKey) (s : Parts) (folder : List ℕ) (info : RegionInfo) (added : List Base) (c : Cell) : Type 0 where
  pub base : Base
  pub listed : Member base added
  pub waiting : s.waiting base ≡ Some a
  pub region : home base ≡ r
  pub named : seq_of base.name ≡ Some c.seq
  pub cell : Cell
  pub there : Member cell (unwrap_or (s.made base) [])
  pub numbered : with_seq (seq_of base.name) cell ≡ c
  pub file : List ℕ × List ℕ
  pub part : IsPartFile a folder info file base s

pub loaded_of : (a : ℕ) (r : RegionKey) (l : RegionFiles) (cells : List Cell) (more : List (List ℕ × Entry)) (s : Parts) (g : Loads a r l cells more s) → BulkNumbered s.placed → (c : Cell) → Member c cells → ComesOf a r s g.folder g.is_open.info g.added c
loaded_of a r l cells more s g h c m =
    let w = cell-entry s.made (map Own g.added) c (subst (Member c) g.joins m) in
    let v = map-member Own w.0 g.added w.1 in
    let x = subst (λ (e : Entry). Member c (cells_of s.made e)) (sym v.2) w.2 in
    let y = map-member (with_seq (seq_of v.0.name)) c (unwrap_or (s.made v.0) []) (of_filter (serves (Own v.0)) c _ x).0 in
    let z = zip-member _ (parts_of s.staged g.folder g.is_open.info (s.loads a)) g.added v.0 g.files v.1 in
    let n = part_numbered a g.folder g.is_open.info z.0 v.0 s h z.1.0 in
    record { base = v.0; listed = v.1; waiting = z.1.1; region = z.1.0.region ∙ g.is_open.key; named = n.1 ∙ ap Some (sym (own_number (seq_of v.0.name) n.0 y.0 c n.1 y.2)); cell = y.0; there = y.1; numbered = y.2; file = z.0; part = z.1.0 }

-- ---- its family and its row

with_family : (o : Option ℕ) (c : Cell) → (with_seq o c).family ≡ c.family
with_family None c = refl
with_family (Some n) c = refl

with_row : (o : Option ℕ) (c : Cell) → (with_seq o c).row ≡ c.row
with_row None c = refl
with_row (Some n) c = refl

-- the cells of a part are in rows of its region: those of a whole file all are, and a piece was cut there
part_rows : (a : ℕ) (folder : List ℕ) (i : RegionInfo) (f : List ℕ × List ℕ) (b : Base) (s : Parts) → IsWritten s → HasCells s → IsPartFile a folder i f b s → (c : Cell) → Member c (unwrap_or (s.made b) []) → holds_row i c.row ≡ true
part_rows a folder i f b s w h x c m = by_source x.source (is_whole s.staged folder i f) refl x.placed x.comes
  where
    in_whole : (family name : List ℕ) → s.made b ≡ Some (staged_cells s.staged folder family name) → family ≡ f.0 → name ≡ f.1 → is_whole s.staged folder i f ≡ true → holds_row i c.row ≡ true
    in_whole family name e u v q = of_all (λ (y : Cell). holds_row i y.row) c (staged_cells s.staged folder f.0 f.1) q
        (subst (λ z. Member c (staged_cells s.staged folder z f.1)) u (subst (λ z. Member c (staged_cells s.staged folder family z)) v (subst (λ o. Member c (unwrap_or o [])) e m)))

    by_source : (source : MoveFrom) (whole : Bool) → is_whole s.staged folder i f ≡ whole → Member (record { base = b; from = source }) (s.placed a) → ComesFrom source whole folder i f s.written → holds_row i c.row ≡ true
    by_source (moves.StagedBulk d name) true q p z = in_whole b.family name (h.filled.whole a b d name p ∙ ap (λ y. Some (staged_cells s.staged y b.family name)) z.0) x.family z.1 q
    by_source (moves.WrittenBulk name) false q p z =
        let e = w.tied.at name z.0 z.1 (subst GivesCells (sym z.2) tt) b (ap (same_bytes (stem b.name)) (sym (h.filled.cut a b name p)) ∙ same_bytes-self (stem b.name)) in
        h.pieces.at name z.0 _ i.start i.end z.1 z.2 c (subst (λ o. Member c (unwrap_or o [])) e m)
    by_source (moves.StagedBulk d name) false q p z = absurd z
    by_source (moves.WrittenBulk name) true q p z = absurd z
    by_source (moves.Written name) true q p z = absurd z
    by_source (moves.Written name) false q p z = absurd z

pub brought : (a : ℕ) (r : RegionKey) (l : RegionFiles) (cells : List Cell) (more : List (List ℕ × Entry)) (s : Parts) (g : Loads a r l cells more s) → IsWritten s → HasCells s → (c : Cell) → Member c cells
    → (versions : ℕ) × Member (c.family, versions) g.is_open.table.schema.families × (holds_row g.is_open.info c.row ≡ true)
brought a r l cells more s g w h c m =
    let o = loaded_of a r l cells more s g h.bulk c m in
    let k = each-member (HasKnownFamily g.is_open.table.schema.families) g.added o.base g.known o.listed in
    let e = each-member (FitsFamily s.made) g.added o.base g.fits o.listed o.cell o.there in
    let family : o.base.family ≡ c.family = sym e ∙ sym (with_family (seq_of o.base.name) o.cell) ∙ ap (λ (y : Cell). y.family) o.numbered in
    let row : c.row ≡ o.cell.row = ap (λ (y : Cell). y.row) (sym o.numbered) ∙ with_row (seq_of o.base.name) o.cell in
    (k.0, subst (λ (y : List ℕ). Member (y, k.0) g.is_open.table.schema.families) family k.1, ap (holds_row g.is_open.info) row ∙ part_rows a g.folder g.is_open.info o.file o.base s w h o.part o.cell o.there)

-- ---- no two are equal

-- cells of bases that share none stand once, where those of each do
once_each : (made : Made) (bs : List Base) → EachTwo (λ b c. b ≢ c) bs → AllByRecursion (HasNoDouble made) bs
    → ((b d : Base) (x : Cell) → Member b bs → Member d bs → Member x (cells_of made (Own b)) → Member x (cells_of made (Own d)) → b ≡ d) → AreOnce (cells_in made (map Own bs))
once_each made [] n h k = λ c. omega arith
once_each made (b ∷ bs) n h k = once-append (cells_of made (Own b)) (cells_in made (map Own bs)) h.0 (once_each made bs n.1 h.1 (λ x y c i j. k x y c (inr i) (inr j))) (λ c i j.
    let w = cell-entry made (map Own bs) c j in
    let v = map-member Own w.0 bs w.1 in
    each-member (λ d. b ≢ d) bs v.0 n.0 v.1 (k b v.0 c (inl refl) (inr v.1) i (subst (λ (e : Entry). Member c (cells_of made e)) (sym v.2) w.2)))

pub brought_once : (a : ℕ) (r : RegionKey) (l : RegionFiles) (cells : List Cell) (more : List (List ℕ × Entry)) (s : Parts) (g : Loads a r l cells more s) → IsBeside s → HasCells s → AreOnce cells
brought_once a r l cells more s g b h = subst AreOnce (sym g.joins) (once_each s.made g.added (added_differ a r l cells more s g b.loads b.placed) g.once one)
  where
    -- the number of a cell is that of its file
    numbered : (d : Base) (x : Cell) → Member d g.added → Member x (cells_of s.made (Own d)) → (s.waiting d ≡ Some a) × (home d ≡ r) × (seq_of d.name ≡ Some x.seq)
    numbered d x i m =
        let y = map-member (with_seq (seq_of d.name)) x (unwrap_or (s.made d) []) (of_filter (serves (Own d)) x _ m).0 in
        let z = zip-member _ (parts_of s.staged g.folder g.is_open.info (s.loads a)) g.added d g.files i in
        let n = part_numbered a g.folder g.is_open.info z.0 d s h.bulk z.1.0 in
        (z.1.1, z.1.0.region ∙ g.is_open.key, n.1 ∙ ap Some (sym (own_number (seq_of d.name) n.0 y.0 x n.1 y.2)))

    one : (d e : Base) (x : Cell) → Member d g.added → Member e g.added → Member x (cells_of s.made (Own d)) → Member x (cells_of s.made (Own e)) → d ≡ e
    one d e x i j m n =
        let u = numbered d x i m in
        let v = numbered e x j n in
        h.loads.apart d e a a x.seq u.0 v.0 (u.1 ∙ sym v.1) u.2 v.2
