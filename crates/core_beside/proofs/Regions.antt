-- The entries of the regions that a change of a table adds may stand beside each other.
use Rattle.std.proofs.Common.{◌≡◌, ◌≢◌, ℕ, true, false, List, [], ◌∷◌, Option, Some, None, refl, sym, ◌∙◌, subst, inl, inr}
use Rattle.std.specs.Prelude.{IsSome}
use Rattle.std.specs.List.{AllZip, AllByRecursion}
use Rattle.std.specs.FinMap.{get}
use Rattle.cell_sight.specs.Member.{Member}
use Rattle.hb_records.specs.declared.region_info.RegionInfo.{RegionInfo}
use Rattle.plain_model.specs.declared.event.Event.{Event}
use Rattle.plain_model.specs.declared.event.Event.TheVariants as event
use Rattle.plain_model.specs.declared.job.Job.{Job}
use Rattle.plain_model.specs.declared.job.Job.TheVariants as jobs
use Rattle.plain_model.specs.declared.region_key.RegionKey.{RegionKey}
use Rattle.plain_model.specs.Keys.{key_of}
use Rattle.plain_model.specs.LiveEvents.{job_of}
use Rattle.core_model.specs.declared.snapshot.Snapshot.{Snapshot}
use Rattle.core_model.specs.ActorFacts as actors
use Rattle.core_model.specs.Entries.{base_of}
use Rattle.core_model.specs.SetGuards.{IsBuilt, IsChange, built_by}
use Rattle.core_model.specs.Sound.{IsSound}
use Rattle.core_model.specs.State.{Parts}
use Rattle.core_model.specs.TableChanges.{added_by}
use Rattle.core_sound.proofs.Sources.{each-member}
use Rattle.core_contents.specs.Faithful.{IsFaithful}
use Rattle.core_contents.specs.PlanFacts.{CopyPlan, IsPlan, SplitPlan}
use Rattle.core_contents.proofs.Changed.{used_there}
use Rattle.core_opens.specs.Fits.{MayStandBeside}
use Rattle.core_beside.specs.Apart.{StandBeside}
use Rattle.core_beside.proofs.Commits.{AreBeside, copies_beside, halves_beside}
use Rattle.core_beside.proofs.Pairs.{two-none}

pub zip_left : {A B : Type 0} (P : A → B → Type 0) (xs : List A) (ys : List B) (x : A) → AllZip P xs ys → Member x xs → (y : B) × Member y ys × P x y
zip_left P [] [] x h m = absurd m
zip_left P (z ∷ xs) (y ∷ ys) x h (inl e) = (y, inl refl, subst (λ v. P v y) e h.0)
zip_left P (z ∷ xs) (y ∷ ys) x h (inr m) = let w = zip_left P xs ys x h.1 m in (w.0, inr w.1, w.2)
zip_left P [] (y ∷ ys) x h m = absurd h
zip_left P (z ∷ xs) [] x h m = absurd h

some_there : {A : Type 0} (o : Option A) → IsSome o → (x : A) × (o ≡ Some x)
some_there (Some x) e = (x, refl)
some_there None e = absurd (cc)

not_none : (xs : List RegionInfo) (i : RegionInfo) → Member i xs → xs ≢ []
not_none [] i m e = m
not_none (x ∷ xs) i m e = absurd (cc)

abbrev Stand : Parts → Type 0
Stand s = StandBeside s.plain.tables s.lists s.snapshots s.captures

-- a region that is split from another
low_beside : (a : ℕ) (s : Parts) (parent : RegionKey) (row : List ℕ) (g : SplitPlan (s.plans a) parent row (s.lists parent)) → AreBeside (s.lists parent).entries → IsBuilt a s g.low → AreBeside (s.lists (key_of g.low)).entries
low_beside a s parent row g h b = subst AreBeside (sym (b.entries ∙ g.low_entries)) (halves_beside parent.region row false (s.lists parent).entries g.whole h)

high_beside : (a : ℕ) (s : Parts) (parent : RegionKey) (row : List ℕ) (g : SplitPlan (s.plans a) parent row (s.lists parent)) → AreBeside (s.lists parent).entries → IsBuilt a s g.high → AreBeside (s.lists (key_of g.high)).entries
high_beside a s parent row g h b = subst AreBeside (sym (b.entries ∙ g.high_entries)) (halves_beside parent.region row true (s.lists parent).entries g.whole h)

-- a region that copies one of a snapshot
copied_beside : (a : ℕ) (s : Parts) (name : List ℕ) (regions : List RegionInfo) (i : RegionInfo) → regions ≡ (s.plans a).regions → IsSome (get s.snapshots name)
    → ((s.plans a).regions ≢ [] → (x : Snapshot) → get s.snapshots name ≡ Some x → AllZip (CopyPlan (s.plans a)) (s.plans a).regions x.regions) → AllByRecursion (IsBuilt a s) regions → Stand s → Member i regions → AreBeside (s.lists (key_of i)).entries
copied_beside a s name regions i z t g b k m =
    let x = some_there (get s.snapshots name) t in
    let p = subst (Member i) z m in
    let w = zip_left (CopyPlan (s.plans a)) (s.plans a).regions x.0.regions i (g (not_none (s.plans a).regions i p) x.0 x.1) p in
    subst AreBeside (sym ((each-member (IsBuilt a s) regions i b m).entries ∙ w.2.entries)) (copies_beside w.0.entries (k.copied name x.0 w.0 x.1 w.1))

pub changed_beside : (job : Option Job) (change : Event) (table : List ℕ) (a : ℕ) (s : Parts) → job_of s.plain.live a ≡ job → IsChange job change table a s → AllByRecursion (IsBuilt a s) (built_by change) → IsSound s → IsFaithful s → Stand s
    → (i : RegionInfo) → Member i (added_by change) → AreBeside (s.lists (key_of i)).entries
changed_beside (Some (jobs.Create t fs n ks)) (event.Create schema regions) table a s j z b h f k i m = let p = subst (Member i) z.2 m in
    two-none MayStandBeside (s.lists (key_of i)).entries (λ e y. let w = h.built.at a i e p y in
    subst (λ o. actors.ComesFrom o a (base_of e) s.plain.live s.plain.tables s.snapshots s.lists) j (h.sources.at a ((key_of i).region, e) w.1))
changed_beside (Some (jobs.Split t row)) (event.Split u parent low high) table a s j z b h f k i m =
    let v : (s.plans a).regions ≢ [] = λ e. let w : low ∷ high ∷ [] ≡ [] = z.3 ∙ e in absurd (cc) in
    let g = subst (λ o. IsPlan o a (s.plans a) s.plain.live s.plain.tables s.snapshots s.lists) j (f.exact.at a v) in
    let lows : g.halves.low ≡ low = (let w : g.halves.low ∷ g.halves.high ∷ [] ≡ low ∷ high ∷ [] = sym g.halves.regions ∙ sym z.3 in cc) in
    let highs : g.halves.high ≡ high = (let w : g.halves.low ∷ g.halves.high ∷ [] ≡ low ∷ high ∷ [] = sym g.halves.regions ∙ sym z.3 in cc) in
    elim m [
      | inl e ↦ subst (λ (x : RegionInfo). AreBeside (s.lists (key_of x)).entries) (lows ∙ e) (low_beside a s g.parent row g.halves (k.listed g.parent g.there) (subst (IsBuilt a s) (sym lows) b.0))
      | inr n ↦ elim n [
        | inl e ↦ subst (λ (x : RegionInfo). AreBeside (s.lists (key_of x)).entries) (highs ∙ e) (high_beside a s g.parent row g.halves (k.listed g.parent g.there) (subst (IsBuilt a s) (sym highs) b.1.0))
        | inr y ↦ absurd y
      ]
    ]
changed_beside (Some (jobs.Clone name t)) (event.Clone c u regions) table a s j z b h f k i m =
    copied_beside a s name regions i z.3 (used_there s a _ name h j refl) (λ v. subst (λ o. IsPlan o a (s.plans a) s.plain.live s.plain.tables s.snapshots s.lists) j (f.exact.at a v)) b k m
changed_beside (Some (jobs.Restore name)) (event.Restore c regions) table a s j z b h f k i m =
    copied_beside a s name regions i z.1 (used_there s a _ name h j refl) (λ v. subst (λ o. IsPlan o a (s.plans a) s.plain.live s.plain.tables s.snapshots s.lists) j (f.exact.at a v)) b k m
changed_beside (Some (jobs.Enable t)) (event.Enable u) table a s j z b h f k i m = absurd m
changed_beside (Some (jobs.Disable t)) (event.Disable u) table a s j z b h f k i m = absurd m
changed_beside (Some (jobs.Drop t)) (event.Drop u) table a s j z b h f k i m = absurd m
changed_beside (Some jobs.Janitor) (event.Remove t rs) table a s j z b h f k i m = absurd m
changed_beside _ _ table a s j z b h f k i m = absurd z
