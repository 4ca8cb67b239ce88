-- Each step keeps that regions cover all rows and differ.
use Rattle.std.proofs.Common.{ℕ, List, sym, subst}
use Rattle.plain_model.specs.declared.event.Event.{Event}
use Rattle.plain_model.specs.declared.event.Event.TheVariants as event
use Rattle.region_set.specs.declared.region_set.RegionSet.{RegionSet}
use Rattle.plain_model.specs.declared.who.Actor.{Actor}
use Rattle.core_model.specs.declared.step.Step.{Step}
use Rattle.core_model.specs.declared.step.Step.TheVariants as step
use Rattle.core_model.specs.ActorChanges.{changed_by, plans_by}
use Rattle.core_model.specs.Allows.{Allows}
use Rattle.core_model.specs.FileChanges.{snapshots_by}
use Rattle.core_model.specs.LiveChanges.{live_by}
use Rattle.core_model.specs.Replay.{after}
use Rattle.core_model.specs.Sound.{IsSound}
use Rattle.core_model.specs.State.{Parts}
use Rattle.core_model.specs.TableChanges.{tables_by}
use Rattle.core_model.specs.TableFacts.{HasOwnRegions}
use Rattle.core_sound.proofs.Kept.{sound_kept}
use Rattle.core_sound.proofs.LiveKept.{live_after}
use Rattle.core_sound.proofs.NeverAgain.{tables_after}
use Rattle.core_contents.specs.Faithful.{IsFaithful}
use Rattle.core_regions.specs.Cover.{HasLimits, HeldAreSplit, IsCovered, IsSmall, KeepsCovered, PlansCover, TablesFit}
use Rattle.core_regions.proofs.PlansKept.{copies_after, plans_kept}
use Rattle.core_regions.proofs.Snapshots.{snapshots_fit}
use Rattle.core_regions.proofs.Tables.{MakesFamilies, change_fits}

limits : (actor : Actor) (table : List ℕ) (number : ℕ) (name : List ℕ) (set : RegionSet) (change : Event) → HasLimits (step.CommitRegions actor table number name set change) → IsSmall set × MakesFamilies change
limits actor table number name set (event.Create schema regions) l = l
limits actor table number name set _ l = (l, tt)

tables_fit : (p : Step) (s : Parts) → HasLimits p → Allows p s → IsSound s → HasOwnRegions (tables_by p s.plain.snapshots s.plain.tables) → IsFaithful s → IsCovered s → TablesFit (tables_by p s.plain.snapshots s.plain.tables)
tables_fit (step.CommitRegions actor table number name set change) s l a h own f k = let m = limits actor table number name set change l in
    record { at = change_fits actor.0 table number name set change s a m.0 m.1 h f k own }
tables_fit _ s l a h own f k = k.tables

pub covered_kept : (p : Step) (s : Parts) → KeepsCovered p s
covered_kept p s few l a h w f k =
    let n = sound_kept p s few a h in
    let own = subst HasOwnRegions (tables_after p s) n.own_regions in
    let x = plans_kept p s a h n k in
    record {
      tables = subst TablesFit (sym (tables_after p s)) (tables_fit p s l a h own f k);
      snapshots = snapshots_fit p s a h w k;
      plans = subst (λ t. PlansCover (plans_by p s.plans) (changed_by p s.changed) (after p s).plain.live t (snapshots_by p s.snapshots) (after p s).plain.snapshots) (sym (tables_after p s))
          (subst (λ live. PlansCover (plans_by p s.plans) (changed_by p s.changed) live (tables_by p s.plain.snapshots s.plain.tables) (snapshots_by p s.snapshots) (after p s).plain.snapshots) (sym (live_after p s a))
          (subst (PlansCover (plans_by p s.plans) (changed_by p s.changed) (live_by p s.plain.live) (tables_by p s.plain.snapshots s.plain.tables) (snapshots_by p s.snapshots)) (sym (copies_after p s)) x.0));
      held = subst (λ t. HeldAreSplit (changed_by p s.changed) (after p s).plain.live t) (sym (tables_after p s))
          (subst (λ live. HeldAreSplit (changed_by p s.changed) live (tables_by p s.plain.snapshots s.plain.tables)) (sym (live_after p s a)) x.1);
    }
