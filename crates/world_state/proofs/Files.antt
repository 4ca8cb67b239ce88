-- Temporary files and the newest sets, after a step.
use Rattle.std.proofs.Common.{◌≡◌, ℕ, Bool, true, false, cond, List, Option, Some, None, refl, sym, ap, subst, ◌∙◌, rules}
use Rattle.std.specs.FinMap.{get, insert, remove, get-insert, get-remove}
use Rattle.std.specs.Cmp.{IsTotalOrder, Equal-is, tied_itself}
use Rattle.std.specs.Cmp.Rules.{comparing}
use Rattle.std.specs.Ordering.{eq_by_cmp, is_eq}
use Rattle.hb_cell.specs.Order.{bytes_cmp, same_bytes}
use Rattle.reserved_map.specs.Keys.{bytes_cmp-exact}
use Rattle.ns_tree.specs.declared.file.FileState.{FileState}
use Rattle.region_set.specs.declared.region_set.RegionSet.{RegionSet}
use Rattle.plain_model.specs.Names.{Names}
use Rattle.core_model.specs.declared.recipe.Recipe.TheVariants as recipes
use Rattle.core_model.specs.declared.snapshot.Snapshot.{Snapshot}
use Rattle.core_model.specs.declared.step.Step.{Step}
use Rattle.core_model.specs.declared.step.Step.TheVariants as step
use Rattle.core_model.specs.declared.targets.OldFile.TheVariants as old
use Rattle.core_model.specs.Allows.{Allows}
use Rattle.core_model.specs.Disk.{Disk, disk_after}
use Rattle.core_model.specs.FileChanges.{sets_by, snapshots_by, written_by}
use Rattle.core_model.specs.Ops.{op_of}
use Rattle.core_model.specs.Site.{Tmp}
use Rattle.core_model.specs.State.{Parts, Written}
use Rattle.core_sites.proofs.Tests.{same_bytes-self, same_bytes-true}
use Rattle.core_sites.specs.Shows.{WorksOn}
use Rattle.core_places.specs.Places.{IsOfFiles}
use Rattle.core_places.specs.Served.{IsServed}
use Rattle.world_state.specs.declared.written.WrittenFile.{WrittenFile}
use Rattle.world_state.specs.Changes.{set_change, written_change}
use Rattle.world_state.specs.Parts.{AreRecorded, Recorded, recorded, set_in, sets_with, taken_by, written_with}

pub total : IsTotalOrder bytes_cmp
total = search (comparing, rules)

pub both_ways : (a b : Bool) → (a ≡ true → b ≡ true) → (b ≡ true → a ≡ true) → a ≡ b
both_ways true b f g = sym (f refl)
both_ways false true f g = g refl
both_ways false false f g = refl

same_name : (m n : List ℕ) → eq_by_cmp bytes_cmp m n ≡ same_bytes m n
same_name m n = both_ways _ _
    (λ e. subst (λ x. same_bytes m x ≡ true) (bytes_cmp-exact m n ((Equal-is (bytes_cmp m n)).0 e)) (same_bytes-self m))
    (λ e. subst (λ x. eq_by_cmp bytes_cmp m x ≡ true) (same_bytes-true m n e) (ap is_eq (tied_itself total m)))

put_name : (files : Recorded) (n m : List ℕ) (x : WrittenFile) → get (insert files n x) m ≡ cond (same_bytes m n) (Some x) (get files m)
put_name files n m x = get-insert total files n x m ∙ ap (λ b. cond b (Some x) (get files m)) (same_name m n)

gone_name : (files : Recorded) (n m : List ℕ) → get (remove files n) m ≡ cond (same_bytes m n) None (get files m)
gone_name files n m = get-remove total files n m ∙ ap (λ b. cond b None (get files m)) (same_name m n)

put_recorded : (b : Bool) (x : WrittenFile) (o : Option WrittenFile) (f : FileState) (d : Option FileState) (v : Written) (w : Option Written) → Some x ≡ recorded (Some f) (Some v) → o ≡ recorded d w
    → cond b (Some x) o ≡ recorded (cond b (Some f) d) (cond b (Some v) w)
put_recorded true x o f d v w e h = e
put_recorded false x o f d v w e h = h

gone_recorded : (b : Bool) (o : Option WrittenFile) (d : Option FileState) (w : Option Written) → o ≡ recorded d w → cond b None o ≡ recorded (cond b None d) w
gone_recorded true o d w h = refl
gone_recorded false o d w h = h

pub recorded_step : (p : Step) (files : Recorded) (d : Disk) (w : List ℕ → Option Written) → IsServed p → AreRecorded files d w → AreRecorded (written_with (written_change p) files) (disk_after (op_of p) d) (written_by p w)
recorded_step (step.WriteTmp actor (recipes.Set table set) name cells bytes) files d w k h m =
    put_name files name m _ ∙ put_recorded (same_bytes m name) _ (get files m) (record { bytes = bytes; moment = 0 }) (d (Tmp m)) _ (w m) refl (h m)
recorded_step (step.WriteTmp actor (recipes.Frozen region family) name cells bytes) files d w k h m = absurd k
recorded_step (step.WriteTmp actor (recipes.Merge region inputs major) name cells bytes) files d w k h m = absurd k
recorded_step (step.WriteTmp actor (recipes.Piece source from to) name cells bytes) files d w k h m = absurd k
recorded_step (step.WriteTmp actor (recipes.List region list) name cells bytes) files d w k h m = absurd k
recorded_step (step.CommitRegions actor table number name set change) files d w k h m = gone_name files name m ∙ gone_recorded (same_bytes m name) (get files m) (d (Tmp m)) (w m) (h m)
recorded_step (step.DropOld actor (old.Tmp name)) files d w k h m = gone_name files name m ∙ gone_recorded (same_bytes m name) (get files m) (d (Tmp m)) (w m) (h m)
recorded_step (step.DropOld actor (old.Set table number)) files d w k h m = h m
recorded_step (step.ListSnapshots who) files d w k h m = h m
recorded_step (step.Start who job answer drawn) files d w k h m = h m
recorded_step (step.End actor refusal) files d w k h m = h m
recorded_step (step.Abandon actor) files d w k h m = h m
recorded_step _ files d w k h m = absurd k

-- a commit takes the file that its set was written in
pub sets_step : (p : Step) (s : Parts) (files : Recorded) (sets : Names RegionSet) → IsServed p → Allows p s → AreRecorded files s.disk s.written → sets ≡ s.sets
    → sets_with (set_change p) (set_in (taken_by (written_change p) files)) sets ≡ sets_by p s.sets
sets_step (step.CommitRegions actor table number name set change) s files sets k a h e =
    let at = h name ∙ (λ i. recorded (a.wrote.stands i) (a.wrote.known i)) in
    ap (λ o. sets_with (set_change (step.CommitRegions actor table number name set change)) (set_in o) sets) at ∙ ap (λ x. insert x table set) e
sets_step (step.DropOld actor (old.Set table number)) s files sets k a h e = ap (sets_with (set_change (step.DropOld actor (old.Set table number))) None) e
sets_step (step.DropOld actor (old.Tmp name)) s files sets k a h e = e
sets_step (step.WriteTmp actor recipe name cells bytes) s files sets k a h e = e
sets_step (step.ListSnapshots who) s files sets k a h e = e
sets_step (step.Start who job answer drawn) s files sets k a h e = e
sets_step (step.End actor refusal) s files sets k a h e = e
sets_step (step.Abandon actor) s files sets k a h e = e
sets_step _ s files sets k a h e = absurd k

pub snapshots_step : (p : Step) (snapshots : Names Snapshot) → IsServed p → snapshots ≡ snapshots_by p snapshots
snapshots_step (step.CommitRegions actor table number name set change) x k = refl
snapshots_step (step.DropOld actor file) x k = refl
snapshots_step (step.WriteTmp actor recipe name cells bytes) x k = refl
snapshots_step (step.ListSnapshots who) x k = refl
snapshots_step (step.Start who job answer drawn) x k = refl
snapshots_step (step.End actor refusal) x k = refl
snapshots_step (step.Abandon actor) x k = refl
snapshots_step _ x k = absurd k

-- what a step works on stands, by its guard
pub works_on : (p : Step) (s : Parts) → IsServed p → Allows p s → WorksOn (op_of p) s.disk
works_on (step.CommitRegions actor table number name set change) s k a = (a.wrote.file, a.wrote.stands)
works_on (step.DropOld actor (old.Set table number)) s k a = (a.state, a.stands)
works_on (step.DropOld actor (old.Tmp name)) s k a = (a.state, a.stands)
works_on (step.WriteTmp actor recipe name cells bytes) s k a = tt
works_on (step.ListSnapshots who) s k a = tt
works_on (step.Start who job answer drawn) s k a = tt
works_on (step.End actor refusal) s k a = tt
works_on (step.Abandon actor) s k a = tt
works_on _ s k a = absurd k

pub of_files : (p : Step) → IsServed p → IsOfFiles (op_of p)
of_files (step.CommitRegions actor table number name set change) k = tt
of_files (step.DropOld actor (old.Set table number)) k = tt
of_files (step.DropOld actor (old.Tmp name)) k = tt
of_files (step.WriteTmp actor recipe name cells bytes) k = tt
of_files (step.ListSnapshots who) k = tt
of_files (step.Start who job answer drawn) k = tt
of_files (step.End actor refusal) k = tt
of_files (step.Abandon actor) k = tt
of_files _ k = absurd k
