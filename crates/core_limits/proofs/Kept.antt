-- Each step is within its limits, and keeps what this needs.
use Rattle.std.proofs.Common.{arith, sym, subst}
use Rattle.core_model.specs.declared.step.Step.{Step}
use Rattle.core_model.specs.declared.step.Step.TheVariants as step
use Rattle.core_model.specs.ActorChanges.{changed_by}
use Rattle.core_model.specs.Allows.{Allows}
use Rattle.core_model.specs.Replay.{after}
use Rattle.core_model.specs.Sound.{IsSound}
use Rattle.core_model.specs.State.{Parts}
use Rattle.core_model.specs.TableChanges.{tables_by}
use Rattle.core_sound.proofs.LiveKept.{live_after}
use Rattle.core_sound.proofs.NeverAgain.{tables_after}
use Rattle.core_regions.specs.Cover.{HasLimits, IsCovered}
use Rattle.core_limits.specs.Limits.{CountsFit, IsLimited, JobsWithin, KeepsLimited, SplitsOpen}
use Rattle.core_limits.proofs.Counts.{counts_kept}
use Rattle.core_limits.proofs.Opens.{opens_kept}
use Rattle.core_limits.proofs.Planned.{jobs_within, plans_few}
use Rattle.core_limits.proofs.Sets.{change_limits}

step_limits : (p : Step) (s : Parts) → Allows p s → IsSound s → IsCovered s → IsLimited s → HasLimits p
step_limits (step.CommitRegions actor table number name set change) s a h v k =
    let c = (counts_kept (step.CommitRegions actor table number name set change) s a h k).at table in change_limits actor table number name set change s a v k (omega (arith, c))
step_limits _ s a h v k = tt

pub limited_kept : (p : Step) (s : Parts) → KeepsLimited p s
limited_kept p s n a h v k = (
  step_limits p s a h v k,
  record {
    epoch = k.epoch;
    counts = subst (λ t. CountsFit (changed_by p s.changed) (after p s).plain.live t) (sym (tables_after p s))
        (subst (λ live. CountsFit (changed_by p s.changed) live (tables_by p s.plain.snapshots s.plain.tables)) (sym (live_after p s a)) (counts_kept p s a h k));
    splits = subst (λ t. SplitsOpen (changed_by p s.changed) (after p s).plain.live t) (sym (tables_after p s))
        (subst (λ live. SplitsOpen (changed_by p s.changed) live (tables_by p s.plain.snapshots s.plain.tables)) (sym (live_after p s a)) (opens_kept p s a h v k));
    plans = plans_few p s n a v k;
    jobs = subst JobsWithin (sym (live_after p s a)) (jobs_within p s a k);
  },
)
