-- A change of regions keeps that the files of each region have its cells.
use Rattle.std.proofs.Common.{◌≡◌, ◌≢◌, ℕ, true, false, cond, List, [], ◌∷◌, Option, Some, None, refl, sym, ap, ◌∙◌, subst, inl, inr}
use Rattle.std.specs.Prelude.{IsSome}
use Rattle.std.specs.List.{AllZip, AllByRecursion}
use Rattle.std.specs.FinMap.{get}
use Rattle.hb_cell.specs.declared.cell.Cell.{Cell}
use Rattle.hb_records.specs.declared.region_info.RegionInfo.{RegionInfo}
use Rattle.plain_model.specs.declared.event.Event.{Event}
use Rattle.plain_model.specs.declared.event.Event.TheVariants as event
use Rattle.plain_model.specs.declared.job.Job.{Job}
use Rattle.plain_model.specs.declared.job.Job.TheVariants as jobs
use Rattle.plain_model.specs.declared.region_key.RegionKey.{RegionKey}
use Rattle.plain_model.specs.CellEvents.{stable_on, each_with, under, from, copies_of, cells_by_key}
use Rattle.plain_model.specs.Keys.{key_of, key_at, same_key, set_at, set_each}
use Rattle.plain_model.specs.declared.parts.Live.{Live}
use Rattle.plain_model.specs.LiveEvents.{job_of, live_of}
use Rattle.plain_model.specs.declared.parts.RegionCopy.{RegionCopy}
use Rattle.plain_model.specs.declared.parts.PlainSnapshot.{PlainSnapshot}
use Rattle.cell_sight.specs.Same.{Same}
use Rattle.plain_model.specs.TableEvents.{tables_on}
use Rattle.core_model.specs.declared.entry.Entry.{Entry}
use Rattle.core_model.specs.declared.snapshot.CopiedRegion.{CopiedRegion}
use Rattle.core_model.specs.declared.snapshot.Snapshot.{Snapshot}
use Rattle.core_model.specs.Actors.{IsRegion}
use Rattle.core_contents.specs.ContentFacts.{HasContents, IsCopy, Copies}
use Rattle.core_model.specs.Entries.{cells_in}
use Rattle.cell_sight.specs.Member.{Member}
use Rattle.core_contents.specs.PlanFacts.{CopyPlan, IsPlan}
use Rattle.core_model.specs.SetGuards.{IsChange, IsBuilt, built_by}
use Rattle.core_contents.specs.Faithful.{IsFaithful}
use Rattle.core_model.specs.Sound.{IsSound}
use Rattle.core_model.specs.State.{Parts}
use Rattle.core_model.specs.TableChanges.{added_by}
use Rattle.core_model.specs.ActorFacts.{used_by}
use Rattle.core_sound.proofs.Lists.{map_some, member-find}
use Rattle.core_sound.proofs.RegionFacts.{region_was}
use Rattle.cell_sight.proofs.Counts.{same-equal}
use Rattle.core_contents.proofs.Planned.{low_contents, high_contents, copied_contents}
use Rattle.core_sound.proofs.Tests.{same_key-true}
use Rattle.core_sound.proofs.Vacant.{same_key-self}

-- the region is none of these
abbrev NotAmong : RegionKey → List RegionInfo → Type 0
NotAmong q is = (i : RegionInfo) → Member i is → key_of i ≡ q → ⊥

other_key : (q : RegionKey) (i : RegionInfo) → same_key q (key_of i) ≡ false → key_of i ≡ q → ⊥
other_key q i d e = let z : true ≡ false = sym (same_key-self q) ∙ ap (same_key q) (sym e) ∙ d in absurd (cc)

-- the cells of a region's list
abbrev held_cells : Parts → RegionKey → List Cell
held_cells s q = cells_in s.made (s.lists q).entries

-- ---- a table that is made

no_entry : (es : List Entry) → ((e : Entry) → Member e es → ⊥) → es ≡ []
no_entry [] h = refl
no_entry (e ∷ es) h = absurd (h e (inl refl))

created : (s : Parts) (q : RegionKey) (is : List RegionInfo) → ((i : RegionInfo) → Member i is → held_cells s (key_of i) ≡ []) → (NotAmong q is → Same (held_cells s q) (s.plain.stable q))
    → Same (held_cells s q) (set_each (each_with [] is) s.plain.stable q)
created s q [] h k = k (λ i m. absurd m)
created s q (i ∷ is) h k = (elim (same_key q (key_of i)) as (λ b. same_key q (key_of i) ≡ b → Same (held_cells s q) (cond b [] (set_each (each_with [] is) s.plain.stable q))) [
  | true ↦ λ d. same-equal (ap (held_cells s) (same_key-true q (key_of i) d) ∙ h i (inl refl))
  | false ↦ λ d. created s q is (λ x m. h x (inr m)) (λ n. k (λ x m e. elim m [ inl z ↦ other_key q i d (ap key_of z ∙ e) | inr z ↦ n x z e ]))
]) refl

-- ---- a table that is copied

copied : (a : ℕ) (s : Parts) (q : RegionKey) (is : List RegionInfo) (rs : List CopiedRegion) (ys : List RegionCopy) → AllZip (CopyPlan (s.plans a)) is rs → AllZip (IsCopy s.made) rs ys → AllByRecursion (IsBuilt a s) is
    → (NotAmong q is → Same (held_cells s q) (s.plain.stable q)) → Same (held_cells s q) (set_each (cells_by_key is ys) s.plain.stable q)
copied a s q [] [] ys g c b k = k (λ i m. absurd m)
copied a s q (i ∷ is) (r ∷ rs) (y ∷ ys) g c b k = (elim (same_key q (key_of i)) as (λ x. same_key q (key_of i) ≡ x → Same (held_cells s q) (cond x y.cells (set_each (cells_by_key is ys) s.plain.stable q))) [
  | true ↦ λ d. subst (λ v. Same (held_cells s v) y.cells) (sym (same_key-true q (key_of i) d)) (copied_contents a s r y i g.0 c.0 b.0)
  | false ↦ λ d. copied a s q is rs ys g.1 c.1 b.1 (λ n. k (λ x m e. elim m [ inl z ↦ other_key q i d (ap key_of z ∙ e) | inr z ↦ n x z e ]))
]) refl
copied a s q (i ∷ is) (r ∷ rs) [] g c b k = absurd c
copied a s q (i ∷ is) [] ys g c b k = absurd g
copied a s q [] (r ∷ rs) ys g c b k = absurd g

-- ---- a region that is split

divided : (s : Parts) (q : RegionKey) (low high : RegionInfo) (cs ds : List Cell) → Same (held_cells s (key_of low)) cs → Same (held_cells s (key_of high)) ds → (NotAmong q (low ∷ high ∷ []) → Same (held_cells s q) (s.plain.stable q))
    → Same (held_cells s q) (set_at (key_of low) cs (set_at (key_of high) ds s.plain.stable) q)
divided s q low high cs ds l h k = (elim (same_key q (key_of low)) as (λ b. same_key q (key_of low) ≡ b → Same (held_cells s q) (cond b cs (set_at (key_of high) ds s.plain.stable q))) [
  | true ↦ λ d. subst (λ v. Same (held_cells s v) cs) (sym (same_key-true q (key_of low) d)) l
  | false ↦ λ d. (elim (same_key q (key_of high)) as (λ b. same_key q (key_of high) ≡ b → Same (held_cells s q) (cond b ds (s.plain.stable q))) [
    | true ↦ λ e. subst (λ v. Same (held_cells s v) ds) (sym (same_key-true q (key_of high) e)) h
    | false ↦ λ e. k (λ x m z. elim m [ inl y ↦ other_key q low d (ap key_of y ∙ z) | inr m ↦ elim m [ inl y ↦ other_key q high e (ap key_of y ∙ z) | inr y ↦ y ] ])
  ]) refl
]) refl

-- ---- all changes

-- a region of the new set that the event does not add was one before
was : (s : Parts) (change : Event) (q : RegionKey) → IsFaithful s → IsRegion (tables_on change s.plain.snapshots s.plain.tables) q → NotAmong q (added_by change) → Same (held_cells s q) (s.plain.stable q)
was s change q f i n = elim (region_was change s.plain.snapshots s.plain.tables q i) [ inl k ↦ f.contents.at q k | inr k ↦ absurd (n k.0 k.1 k.2) ]

some_regions : {P : Type 0} (xs : List RegionInfo) (i : RegionInfo) → Member i xs → (xs ≢ [] → P) → P
some_regions [] i m f = absurd m
some_regions (x ∷ xs) i m f = f (λ e. absurd (cc))

copies : (a : ℕ) (s : Parts) (q : RegionKey) (name : List ℕ) (regions : List RegionInfo) (o : Option Snapshot) (y : Option PlainSnapshot) → get s.snapshots name ≡ o → regions ≡ (s.plans a).regions
    → ((s.plans a).regions ≢ [] → (x : Snapshot) → get s.snapshots name ≡ Some x → AllZip (CopyPlan (s.plans a)) (s.plans a).regions x.regions) → IsSome o → Copies s.made o y → AllByRecursion (IsBuilt a s) regions
    → (NotAmong q regions → Same (held_cells s q) (s.plain.stable q)) → Same (held_cells s q) (set_each (cells_by_key regions (copies_of y)) s.plain.stable q)
copies a s q name [] o y e r g t c b k = k (λ i m. absurd m)
copies a s q name (i ∷ is) (Some x) (Some y) e r g t c b k =
    copied a s q (i ∷ is) x.regions y.regions (subst (λ v. AllZip (CopyPlan (s.plans a)) v x.regions) (sym r) (g (λ z. let w : i ∷ is ≡ [] = r ∙ z in absurd (cc)) x e)) c.1 b k
copies a s q name (i ∷ is) (Some x) None e r g t c b k = absurd c
copies a s q name (i ∷ is) None y e r g t c b k = absurd (cc)

-- the snapshot that a job copies is there
pub used_there : (s : Parts) (a : ℕ) (job : Job) (name : List ℕ) → IsSound s → job_of s.plain.live a ≡ Some job → used_by job ≡ Some name → IsSome (get s.snapshots name)
used_there s a job name h j u = let w = map_some (λ (l : Live). l.job) (live_of s.plain.live a) job j in
    h.held.used a name (record { activity = w.0; at_work = w.1; held = h.uses.at w.0 name (member-find _ s.plain.live w.0 w.1) (ap used_by w.2 ∙ u) })

pub changed_contents : (job : Option Job) (change : Event) (table : List ℕ) (a : ℕ) (s : Parts) → job_of s.plain.live a ≡ job → IsChange job change table a s → AllByRecursion (IsBuilt a s) (built_by change) → IsSound s → IsFaithful s
    → HasContents s.made s.lists (tables_on change s.plain.snapshots s.plain.tables) (stable_on change s.plain.tables s.plain.snapshots s.plain.mem s.plain.frozen s.plain.noted s.plain.stable)
changed_contents (Some (jobs.Enable t)) (event.Enable u) table a s j z b h f = record { at = λ q i. was s (event.Enable u) q f i (λ x m. absurd m) }
changed_contents (Some (jobs.Disable t)) (event.Disable u) table a s j z b h f = record { at = λ q i. was s (event.Disable u) q f i (λ x m. absurd m) }
changed_contents (Some (jobs.Drop t)) (event.Drop u) table a s j z b h f = record { at = λ q i. was s (event.Drop u) q f i (λ x m. absurd m) }
changed_contents (Some jobs.Janitor) (event.Remove t rs) table a s j z b h f = record { at = λ q i. was s (event.Remove t rs) q f i (λ x m. absurd m) }
changed_contents (Some (jobs.Create t fs n ks)) (event.Create schema regions) table a s j z b h f = record {
  at = λ q i. created s q regions
      (λ x m. ap (cells_in s.made) (no_entry (s.lists (key_of x)).entries (λ e k. let p = subst (Member x) z.2 m in
      some_regions (s.plans a).regions x p (λ v. let w = h.built.at a x e p k in subst (Member ((key_of x).region, e)) (subst (λ o. IsPlan o a (s.plans a) s.plain.live s.plain.tables s.snapshots s.lists) j (f.exact.at a v)) w.1))))
      (was s (event.Create schema regions) q f i);
}
changed_contents (Some (jobs.Split t row)) (event.Split u parent low high) table a s j z b h f =
    let v : (s.plans a).regions ≢ [] = λ e. let w : low ∷ high ∷ [] ≡ [] = z.3 ∙ e in absurd (cc) in
    let g = subst (λ o. IsPlan o a (s.plans a) s.plain.live s.plain.tables s.snapshots s.lists) j (f.exact.at a v) in
    let key : key_at u parent ≡ g.parent = ap (λ x. key_at x parent) z.1 ∙ g.alone (key_at table parent) z.2 in
    let lows : g.halves.low ≡ low = (let w : g.halves.low ∷ g.halves.high ∷ [] ≡ low ∷ high ∷ [] = sym g.halves.regions ∙ sym z.3 in cc) in
    let highs : g.halves.high ≡ high = (let w : g.halves.low ∷ g.halves.high ∷ [] ≡ low ∷ high ∷ [] = sym g.halves.regions ∙ sym z.3 in cc) in
    record {
      at = λ q i. divided s q low high (under high.start (s.plain.stable (key_at u parent))) (from high.start (s.plain.stable (key_at u parent)))
          (subst (λ x. Same (held_cells s (key_of low)) (under high.start (s.plain.stable x))) (sym key) (subst (λ (x : RegionInfo). Same (held_cells s (key_of low)) (under x.start (s.plain.stable g.parent))) highs
          (subst (λ x. Same (held_cells s (key_of x)) (under g.halves.high.start (s.plain.stable g.parent))) lows (low_contents a s g.parent row g.halves f g.there (subst (IsBuilt a s) (sym lows) b.0)))))
          (subst (λ x. Same (held_cells s (key_of high)) (from high.start (s.plain.stable x))) (sym key) (subst (λ (x : RegionInfo). Same (held_cells s (key_of x)) (from x.start (s.plain.stable g.parent))) highs
          (high_contents a s g.parent row g.halves f g.there (subst (IsBuilt a s) (sym highs) b.1.0))))
          (was s (event.Split u parent low high) q f i);
    }
changed_contents (Some (jobs.Clone name t)) (event.Clone c u regions) table a s j z b h f = record {
  at = λ q i. subst (λ x. Same (held_cells s q) (set_each (cells_by_key regions (copies_of (get s.plain.snapshots x))) s.plain.stable q)) (sym z.2)
      (copies a s q name regions (get s.snapshots name) (get s.plain.snapshots name) refl z.3 (λ v. subst (λ o. IsPlan o a (s.plans a) s.plain.live s.plain.tables s.snapshots s.lists) j (f.exact.at a v)) (used_there s a _ name h j refl) (f.copies.at name) b (was s (event.Clone c u regions) q f i));
}
changed_contents (Some (jobs.Restore name)) (event.Restore c regions) table a s j z b h f = record {
  at = λ q i. subst (λ x. Same (held_cells s q) (set_each (cells_by_key regions (copies_of (get s.plain.snapshots x))) s.plain.stable q)) (sym z.0)
      (copies a s q name regions (get s.snapshots name) (get s.plain.snapshots name) refl z.1 (λ v. subst (λ o. IsPlan o a (s.plans a) s.plain.live s.plain.tables s.snapshots s.lists) j (f.exact.at a v)) (used_there s a _ name h j refl) (f.copies.at name) b (was s (event.Restore c regions) q f i));
}
changed_contents _ _ table a s j z b h f = absurd z
