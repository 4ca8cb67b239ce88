-- The entries of a list that is committed may stand beside each other.
use Rattle.std.proofs.Common.{◌≡◌, ◌≢◌, ◌⊎◌, ◌≤◌, ℕ, Bool, true, false, not, cond, List, [], ◌∷◌, ◌++◌, Some, refl, sym, ap, ◌∙◌, subst, inl, inr, arith}
use Rattle.std.specs.Prelude.{count_by, map}
use Rattle.std.specs.List.{AllByRecursion, AllZip}
use Rattle.cell_sight.specs.Member.{Member}
use Rattle.cell_sight.proofs.Members.{of_filter}
use Rattle.hb_cell.specs.declared.cell.Cell.{Cell}
use Rattle.hb_cell.specs.Order.{same_bytes}
use Rattle.hb_layout.specs.declared.base.Base.{Base}
use Rattle.plain_model.specs.declared.region_key.RegionKey.{RegionKey}
use Rattle.core_model.specs.declared.entry.Entry.{Entry}
use Rattle.core_model.specs.declared.entry.Entry.TheVariants.{Own, Link, Half}
use Rattle.core_model.specs.declared.region_files.RegionFiles.{RegionFiles}
use Rattle.core_model.specs.Actors.{IsRegion}
use Rattle.core_model.specs.Entries.{base_of, is_half, is_in}
use Rattle.core_model.specs.ListGuards.{AreOfDistinctFamilies, Compacts, Flushes, IsFlushed, IsMerge, IsOutput, Merge, Waits, families_in, merged_entries, replaced, without}
use Rattle.core_model.specs.Plans.{copy_of, half_of}
use Rattle.core_model.specs.Recipes.{frozen_cells}
use Rattle.core_model.specs.State.{Parts}
use Rattle.core_sound.proofs.Sources.{each-member, map-member, merged-member, zip-member}
use Rattle.core_sound.proofs.Tests.{same_bytes-self}
use Rattle.core_contents.proofs.Counts.{family-once}
use Rattle.core_opens.specs.Fits.{EachTwo, MayStandBeside}
use Rattle.core_beside.specs.Apart.{AreUnused, listed}
use Rattle.core_beside.proofs.Pairs.{each-from, two-append, two-filter, two-map, two-once, two-zip}

abbrev pub AreBeside : List Entry → Type 0
AreBeside = EachTwo MayStandBeside

-- ---- copies and halves

copy_beside : (e f : Entry) → MayStandBeside e f → MayStandBeside (copy_of e) (copy_of f)
copy_beside (Own b) (Own c) h = h
copy_beside (Own b) (Link c) h = h
copy_beside (Own b) (Half c m q s u) h = tt
copy_beside (Link b) (Own c) h = h
copy_beside (Link b) (Link c) h = h
copy_beside (Link b) (Half c m q s u) h = tt
copy_beside (Half b l p r t) (Own c) h = tt
copy_beside (Half b l p r t) (Link c) h = tt
copy_beside (Half b l p r t) (Half c m q s u) h = h

half_beside : (parent row : List ℕ) (top : Bool) (e f : Entry) → is_half e ≡ false → is_half f ≡ false → MayStandBeside e f → MayStandBeside (half_of parent row top e) (half_of parent row top f)
half_beside parent row top (Own b) (Own c) x y h = inl h
half_beside parent row top (Own b) (Link c) x y h = inl h
half_beside parent row top (Link b) (Own c) x y h = inl h
half_beside parent row top (Link b) (Link c) x y h = inl h
half_beside parent row top (Own b) (Half c m q s u) x y h = absurd (cc)
half_beside parent row top (Link b) (Half c m q s u) x y h = absurd (cc)
half_beside parent row top (Half b l p r t) f x y h = absurd (cc)

pub copies_beside : (es : List Entry) → AreBeside es → AreBeside (map copy_of es)
copies_beside es h = two-map MayStandBeside MayStandBeside copy_of es (λ e f m n k. copy_beside e f k) h

pub halves_beside : (parent row : List ℕ) (top : Bool) (es : List Entry) → AllByRecursion (λ e. is_half e ≡ false) es → AreBeside es → AreBeside (map (half_of parent row top) es)
halves_beside parent row top es w h = two-map MayStandBeside MayStandBeside (half_of parent row top) es
    (λ e f m n k. half_beside parent row top e f (each-member (λ x. is_half x ≡ false) es e w m) (each-member (λ x. is_half x ≡ false) es f w n) k) h

-- ---- files that a list gains

beside_own : (e : Entry) (b : Base) → (base_of e ≡ b → ⊥) → MayStandBeside e (Own b)
beside_own (Own c) b n = n
beside_own (Link c) b n = n
beside_own (Half c m q s u) b n = tt

own_beside : (b : Base) (e : Entry) → (base_of e ≡ b → ⊥) → MayStandBeside (Own b) e
own_beside b (Own c) n = λ e. n (sym e)
own_beside b (Link c) n = λ e. n (sym e)
own_beside b (Half c m q s u) n = tt

abbrev pub AreApart : List Entry → List Base → Type 0
AreApart es bs = (e : Entry) (b : Base) → Member e es → Member b bs → base_of e ≡ b → ⊥

owns_beside : (bs : List Base) → EachTwo (λ b c. b ≢ c) bs → AreBeside (map Own bs)
owns_beside bs h = two-map (λ b c. b ≢ c) MayStandBeside Own bs (λ b c m n k. k) h

pub joined_beside : (es : List Entry) (bs : List Base) → AreBeside es → EachTwo (λ b c. b ≢ c) bs → AreApart es bs → AreBeside (es ++ map Own bs)
joined_beside es bs h k n = two-append MayStandBeside es (map Own bs) h (owns_beside bs k)
    (λ e f m i. let v = map-member Own f bs i in subst (MayStandBeside e) v.2 (beside_own e v.0 (n e v.0 m v.1)))

-- a file that waits is no entry's base
pub waits_apart : (s : Parts) (r : RegionKey) (bs : List Base) → AreUnused s.waiting s.plain.tables s.lists s.snapshots s.captures → IsRegion s.plain.tables r → ((b : Base) → Member b bs → (a : ℕ) × (s.waiting b ≡ Some a)) → AreApart (s.lists r).entries bs
waits_apart s r bs u i w e b m n k = let v = w b n in u.at b v.0 v.1 (listed r e i m k)

-- ---- a flush

few : (b : Bool) (n : ℕ) → n ≡ cond b 1 0 → n ≤ 1
few true n e = omega (arith, e)
few false n e = omega (arith, e)

families_differ : (cs : List Cell) → EachTwo (λ f g. f ≢ g) (families_in cs)
families_differ cs = two-once same_bytes (families_in cs) same_bytes-self (λ x. few _ (count_by (same_bytes x) (families_in cs)) (family-once cs x))

flushed_differ : (a : ℕ) (r : RegionKey) (s : Parts) (added : List Base) → AllZip (IsFlushed a r s) (families_in (frozen_cells s.plain r)) added → EachTwo (λ b c. b ≢ c) added
flushed_differ a r s added z = two-zip (IsFlushed a r s) (λ f g. f ≢ g) (λ b c. b ≢ c) (families_in (frozen_cells s.plain r)) added
    (λ f g b c n x y e. n (sym x.waits.same_family ∙ ap (λ (v : Base). v.family) e ∙ y.waits.same_family)) z (families_differ (frozen_cells s.plain r))

pub flush_beside : (a : ℕ) (r : RegionKey) (l : RegionFiles) (cells : List Cell) (more : List (List ℕ × Entry)) (s : Parts) → Flushes a r l cells more s → AreUnused s.waiting s.plain.tables s.lists s.snapshots s.captures → AreBeside (s.lists r).entries → AreBeside l.entries
flush_beside a r l cells more s g u h = subst AreBeside (sym g.entries) (joined_beside (s.lists r).entries g.added h (flushed_differ a r s g.added g.files)
    (waits_apart s r g.added u g.region (λ b m. let w = zip-member (IsFlushed a r s) (families_in (frozen_cells s.plain r)) g.added b g.files m in (a, w.1.waits.waiting))))

-- ---- a compaction

output_waits : (a : ℕ) (r : RegionKey) (family : List ℕ) (cells : List Cell) (s : Parts) (bs : List Base) → IsOutput bs a r family cells s → (b : Base) → Member b bs → Waits a r family b s
output_waits a r family cells s [] o b m = absurd m
output_waits a r family cells s (c ∷ []) o b (inl e) = subst (λ x. Waits a r family x s) e o.1
output_waits a r family cells s (c ∷ []) o b (inr m) = absurd m
output_waits a r family cells s (c ∷ d ∷ bs) o b m = absurd o

output_alone : (a : ℕ) (r : RegionKey) (family : List ℕ) (cells : List Cell) (s : Parts) (bs : List Base) → IsOutput bs a r family cells s → EachTwo (λ b c. b ≢ c) bs
output_alone a r family cells s [] o = tt
output_alone a r family cells s (c ∷ []) o = (tt, tt)
output_alone a r family cells s (c ∷ d ∷ bs) o = absurd o

-- an entry of the list with one merge's inputs replaced
replaced_of : (m : Merge) (es : List Entry) (e : Entry) → Member e (replaced m.inputs (map Own m.output) es) → Member e es ⊎ ((b : Base) × Member b m.output × (Own b ≡ e))
replaced_of m es e i = elim (merged-member (m ∷ []) e es i) [
  | inl k ↦ inl k
  | inr k ↦ elim k.1 [ inl d ↦ inr (map-member Own e m.output (subst (λ (v : Merge). Member e (map Own v.output)) (sym d) k.2)) | inr n ↦ absurd n ]
]

replaced_beside : (m : Merge) (es : List Entry) → EachTwo (λ b c. b ≢ c) m.output → AreApart es m.output → AreBeside es → AreBeside (replaced m.inputs (map Own m.output) es)
replaced_beside m [] k n h = tt
replaced_beside m (e ∷ es) k n h = elim (is_in m.inputs e) as (λ b. AreBeside (cond b (map Own m.output ++ without m.inputs es) (e ∷ replaced m.inputs (map Own m.output) es))) [
  | true ↦ two-append MayStandBeside (map Own m.output) (without m.inputs es) (owns_beside m.output k) (two-filter MayStandBeside (λ x. not (is_in m.inputs x)) es h.1)
      (λ x y i j. let v = map-member Own x m.output i in subst (λ z. MayStandBeside z y) v.2 (own_beside v.0 y (n y v.0 (inr (of_filter (λ z. not (is_in m.inputs z)) y es j).0) v.1)))
  | false ↦ (
    each-from (MayStandBeside e) (replaced m.inputs (map Own m.output) es) (λ y i. elim (replaced_of m es y i) [
      | inl j ↦ each-member (MayStandBeside e) es y h.0 j
      | inr v ↦ subst (MayStandBeside e) v.2 (beside_own e v.0 (n e v.0 (inl refl) v.1))
    ]),
    replaced_beside m es k (λ x b i j. n x b (inr i) j) h.1,
  )
]

-- the output of each merge: of its family, once, and no entry's base
record IsNewOutput (es : List Entry) (m : Merge) : Type 0 where
  alone : EachTwo (λ b c. b ≢ c) m.output
  family : (b : Base) → Member b m.output → b.family ≡ m.family
  new : AreApart es m.output

merged_beside : (ms : List Merge) (es : List Entry) → AllByRecursion (IsNewOutput es) ms → AreOfDistinctFamilies ms → AreBeside es → AreBeside (merged_entries ms es)
merged_beside [] es o d h = h
merged_beside (m ∷ ms) es o d h = merged_beside ms (replaced m.inputs (map Own m.output) es) (each-from (IsNewOutput _) ms (λ k i. later k i)) d.1 (replaced_beside m es o.0.alone o.0.new h)
  where
    later : (k : Merge) → Member k ms → IsNewOutput (replaced m.inputs (map Own m.output) es) k
    later k i = let w = each-member (IsNewOutput es) ms k o.1 i in record {
      alone = w.alone;
      family = w.family;
      new = λ e b x y z. elim (replaced_of m es e x) [
        | inl j ↦ w.new e b j y z
        | inr v ↦ each-member (λ (n : Merge). n.family ≢ m.family) ms k d.0 i (sym (w.family b y) ∙ ap (λ (c : Base). c.family) (sym z ∙ ap base_of (sym v.2)) ∙ o.0.family v.0 v.1)
      ];
    }

pub compact_beside : (a : ℕ) (r : RegionKey) (major : Bool) (l : RegionFiles) (cells : List Cell) (more : List (List ℕ × Entry)) (s : Parts) → Compacts a r major l cells more s → AreUnused s.waiting s.plain.tables s.lists s.snapshots s.captures
    → AreBeside (s.lists r).entries → AreBeside l.entries
compact_beside a r major l cells more s g u h = subst AreBeside (sym g.entries) (merged_beside g.merges (s.lists r).entries (each-from (IsNewOutput _) g.merges (λ m i. new m i)) g.distinct h)
  where
    new : (m : Merge) → Member m g.merges → IsNewOutput (s.lists r).entries m
    new m i = let o = (each-member (IsMerge a r major g.pinned.entries s) g.merges m g.each i).output in record {
      alone = output_alone a r m.family _ s m.output o;
      family = λ b j. (output_waits a r m.family _ s m.output o b j).same_family;
      new = waits_apart s r m.output u g.region (λ b j. (a, (output_waits a r m.family _ s m.output o b j).waiting));
    }
