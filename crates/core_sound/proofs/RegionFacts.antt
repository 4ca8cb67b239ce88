-- A region of a set after an event was in one, or is one that the event adds.
use Rattle.std.proofs.Common.{◌≡◌, ◌⊎◌, ℕ, ◌||◌, Bool, true, false, not, cond, List, [], ◌∷◌, Option, Some, None, refl, sym, ap, ◌∙◌, subst, inl, inr}
use Rattle.std.specs.Ordering.{is_gt}
use Rattle.std.specs.FinMap.{get, insert, remove}
use Rattle.hb_records.specs.declared.region_info.RegionInfo.{RegionInfo}
use Rattle.hb_records.specs.declared.table_schema.TableSchema.{TableSchema}
use Rattle.region_set.specs.RegionLine.{region_cmp}
use Rattle.plain_model.specs.declared.event.Event.{Event}
use Rattle.plain_model.specs.declared.event.Event.TheVariants as event
use Rattle.plain_model.specs.declared.region_key.RegionKey.{RegionKey}
use Rattle.plain_model.specs.Names.{Names, change, change_found}
use Rattle.plain_model.specs.Keys.{key_of}
use Rattle.plain_model.specs.declared.parts.PlainSnapshot.{PlainSnapshot}
use Rattle.plain_model.specs.declared.parts.PlainTable.{PlainTable}
use Rattle.plain_model.specs.TableEvents.{tables_on, table_of, schema_for, with_region, with_split, is_one_of, without_regions, with_copy, with_restored}
use Rattle.core_model.specs.Actors.{InSet, IsRegion}
use Rattle.cell_sight.specs.Member.{Member}
use Rattle.core_model.specs.TableChanges.{added_by}
use Rattle.core_sound.proofs.Lists.{get-put, get-taken}
use Rattle.core_sound.proofs.Sources.{map-member}

-- the region was in a set, or is one of these
abbrev WasOr : List RegionInfo → Names PlainTable → RegionKey → Type 0
WasOr added tables r = IsRegion tables r ⊎ ((i : RegionInfo) × Member i added × (key_of i ≡ r))

-- a region of a table, split or open
any_split : (tables : Names PlainTable) (r : RegionKey) (split : Bool) → InSet tables r split → IsRegion tables r
any_split tables r true i = inr i
any_split tables r false i = inl i

-- each region of the new table was in the old one, or is added
abbrev Comes : List RegionInfo → List (RegionInfo × Bool) → List (RegionInfo × Bool) → Type 0
Comes added old new = (i : RegionInfo) (split : Bool) → Member (i, split) new → ((s : Bool) × Member (i, s) old) ⊎ Member i added

-- a table is put in
put_law : (added : List RegionInfo) (tables : Names PlainTable) (t : List ℕ) (x : PlainTable) (r : RegionKey) (split : Bool)
    → ((i : RegionInfo) → r.table ≡ t → Member (i, split) x.regions → key_of i ≡ r → WasOr added tables r) → InSet (insert tables t x) r split → WasOr added tables r
put_law added tables t x r split f h = get-put tables t x r.table h.table h.stands
    (λ d e. f h.info d (subst (λ (y : PlainTable). Member (h.info, split) y.regions) (sym e) h.listed) h.key)
    (λ e. inl (any_split tables r split (record { table = h.table; stands = e; info = h.info; listed = h.listed; key = h.key })))

either_law : (added : List RegionInfo) (tables new : Names PlainTable) (r : RegionKey) → ((split : Bool) → InSet new r split → WasOr added tables r) → IsRegion new r → WasOr added tables r
either_law added tables new r f (inl h) = f false h
either_law added tables new r f (inr h) = f true h

-- a table of these regions is put in
made_law : (added : List RegionInfo) (enabled : Bool) (schema : TableSchema) (tables : Names PlainTable) (t : List ℕ) (r : RegionKey) → IsRegion (insert tables t (table_of enabled schema added)) r → WasOr added tables r
made_law added enabled schema tables t r h = either_law added tables _ r (λ split k. put_law added tables t (table_of enabled schema added) r split
    (λ i d m e. let w = map-member (λ (j : RegionInfo). (j, false)) (i, split) added m in inr (i, subst (λ j. Member j added) (ap (λ (y : RegionInfo × Bool). y.0) w.2) w.1, e)) k) h

-- a table is changed
change_law : (added : List RegionInfo) (f : PlainTable → PlainTable) → ((x : PlainTable) → Comes added x.regions (f x).regions) → (tables : Names PlainTable) (t : List ℕ) (r : RegionKey) → IsRegion (change t f tables) r → WasOr added tables r
change_law added f c tables t r h = by_found (get tables t) refl h
  where
    by_found : (o : Option PlainTable) → get tables t ≡ o → IsRegion (change_found t f tables o) r → WasOr added tables r
    by_found None e k = inl k
    by_found (Some x) e k = either_law added tables _ r (λ split j. put_law added tables t (f x) r split
        (λ i d m q. elim (c x i split m) [
          | inl w ↦ inl (any_split tables r w.0 (record { table = x; stands = ap (get tables) d ∙ e; info = i; listed = w.1; key = q }))
          | inr w ↦ inr (i, w, q)
        ]) j) k

-- ---- the regions of a table that is changed

comes-same : (added : List RegionInfo) (rs : List (RegionInfo × Bool)) → Comes added rs rs
comes-same added rs i split m = inl (split, m)

comes-trans : (added : List RegionInfo) (rs ss ts : List (RegionInfo × Bool)) → Comes added rs ss → Comes added ss ts → Comes added rs ts
comes-trans added rs ss ts h k i split m = elim (k i split m) [ inl w ↦ h i w.0 w.1 | inr w ↦ inr w ]

put-member : (new : RegionInfo) (y : RegionInfo × Bool) (rs : List (RegionInfo × Bool)) → Member y (with_region new rs) → ((new, false) ≡ y) ⊎ Member y rs
put-member new y [] (inl e) = inl e
put-member new y [] (inr m) = absurd m
put-member new y (s ∷ ss) m = (elim (is_gt (region_cmp new s.0)) as (λ b. Member y (cond b (s ∷ with_region new ss) ((new, false) ∷ s ∷ ss)) → ((new, false) ≡ y) ⊎ Member y (s ∷ ss)) [
  | true ↦ λ k. elim k [ inl e ↦ inr (inl e) | inr n ↦ elim (put-member new y ss n) [ inl e ↦ inl e | inr j ↦ inr (inr j) ] ]
  | false ↦ λ k. elim k [ inl e ↦ inl e | inr n ↦ inr n ]
]) m

comes-put : (added : List RegionInfo) (new : RegionInfo) (rs : List (RegionInfo × Bool)) → Member new added → Comes added rs (with_region new rs)
comes-put added new rs n i split m = elim (put-member new (i, split) rs m) [ inl e ↦ inr (subst (λ j. Member j added) (ap (λ (y : RegionInfo × Bool). y.0) e) n) | inr k ↦ inl (split, k) ]

comes-split : (added : List RegionInfo) (names : List (List ℕ)) (rs : List (RegionInfo × Bool)) → Comes added rs (with_split names rs)
comes-split added names rs i split m =
    let w = map-member (λ (x : RegionInfo × Bool). (x.0, x.1 || is_one_of names x)) (i, split) rs m in
    let e : w.0.0 ≡ i = ap (λ (y : RegionInfo × Bool). y.0) w.2 in
    inl (w.0.1, subst (λ j. Member (j, w.0.1) rs) e w.1)

comes-fewer : (added : List RegionInfo) (names : List (List ℕ)) (rs : List (RegionInfo × Bool)) → Comes added rs (without_regions names rs)
comes-fewer added names [] i split m = absurd m
comes-fewer added names (x ∷ xs) i split m = (elim (is_one_of names x) as (λ b. Member (i, split) (cond (not b) (x ∷ without_regions names xs) (without_regions names xs)) → ((s : Bool) × Member (i, s) (x ∷ xs)) ⊎ Member i added) [
  | true ↦ λ k. elim (comes-fewer added names xs i split k) [ inl w ↦ inl (w.0, inr w.1) | inr w ↦ inr w ]
  | false ↦ λ k. elim k [ inl e ↦ inl (split, inl e) | inr n ↦ elim (comes-fewer added names xs i split n) [ inl w ↦ inl (w.0, inr w.1) | inr w ↦ inr w ] ]
]) m

-- ---- all events

copy_law : (t : List ℕ) (regions : List RegionInfo) (o : Option PlainSnapshot) (tables : Names PlainTable) (r : RegionKey) → IsRegion (with_copy t true regions o tables) r → WasOr regions tables r
copy_law t regions None tables r h = inl h
copy_law t regions (Some s) tables r h = made_law regions true (schema_for t s.schema) tables t r h

restored_law : (regions : List RegionInfo) (o : Option PlainSnapshot) (tables : Names PlainTable) (r : RegionKey) → IsRegion (with_restored regions o tables) r → WasOr regions tables r
restored_law regions None tables r h = inl h
restored_law regions (Some s) tables r h = made_law regions false s.schema tables s.schema.table r h

drop_law : (tables : Names PlainTable) (t : List ℕ) (r : RegionKey) (split : Bool) → InSet (remove tables t) r split → WasOr [] tables r
drop_law tables t r split h = get-taken tables t r.table h.table h.stands (λ d e. inl (any_split tables r split (record { table = h.table; stands = e; info = h.info; listed = h.listed; key = h.key })))

-- a region of a set was in one, or is one that the event adds
pub region_was : (e : Event) (snapshots : Names PlainSnapshot) (tables : Names PlainTable) (r : RegionKey) → IsRegion (tables_on e snapshots tables) r → WasOr (added_by e) tables r
region_was (event.Create schema regions) snapshots tables r h = made_law regions true schema tables schema.table r h
region_was (event.Enable t) snapshots tables r h = change_law [] _ (λ x. comes-same [] x.regions) tables t r h
region_was (event.Disable t) snapshots tables r h = change_law [] _ (λ x. comes-same [] x.regions) tables t r h
region_was (event.Drop t) snapshots tables r h = either_law [] tables (remove tables t) r (λ split k. drop_law tables t r split k) h
region_was (event.Split t parent low high) snapshots tables r h = change_law (low ∷ high ∷ []) _
    (λ x. comes-trans (low ∷ high ∷ []) x.regions (with_region high (with_split (parent ∷ []) x.regions)) _
    (comes-trans (low ∷ high ∷ []) x.regions (with_split (parent ∷ []) x.regions) _ (comes-split (low ∷ high ∷ []) (parent ∷ []) x.regions) (comes-put (low ∷ high ∷ []) high (with_split (parent ∷ []) x.regions) (inr (inl refl))))
    (comes-put (low ∷ high ∷ []) low (with_region high (with_split (parent ∷ []) x.regions)) (inl refl))) tables t r h
region_was (event.Clone s t regions) snapshots tables r h = copy_law t regions (get snapshots s) tables r h
region_was (event.Restore s regions) snapshots tables r h = restored_law regions (get snapshots s) tables r h
region_was (event.Remove t regions) snapshots tables r h = change_law [] _ (λ x. comes-fewer [] regions x.regions) tables t r h
region_was _ snapshots tables r h = inl h
