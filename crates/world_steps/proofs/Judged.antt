-- A start that is judged may be answered so.
use Rattle.std.proofs.Common.{◌≡◌, ◌≢◌, ◌↔◌, ℕ, Bool, true, false, not, List, [], ◌∷◌, Option, Some, None, refl, sym, ap, subst, ◌∙◌}
use Rattle.std.specs.Prelude.{option_map, unwrap_or}
use Rattle.std.proofs.lemmas.Bool.{false≢true}
use Rattle.hb_records.specs.declared.region_info.RegionInfo.{RegionInfo}
use Rattle.plain_model.specs.declared.hold.Hold.{Hold}
use Rattle.plain_model.specs.declared.job.Job.{Job}
use Rattle.plain_model.specs.declared.job.Job.TheVariants as jobs
use Rattle.plain_model.specs.declared.reply.Reply.{Reply}
use Rattle.plain_model.specs.declared.reply.Reply.TheVariants.{Fine, TableExists, DuplicateFamily, BadSplitKey, NameTaken}
use Rattle.plain_model.specs.declared.who.Who.{Who}
use Rattle.plain_model.specs.Found.{is_table}
use Rattle.plain_model.specs.Held.{held_by}
use Rattle.plain_model.specs.Holds.{holds_of}
use Rattle.plain_model.specs.Plain.{Plain}
use Rattle.plain_model.specs.Replies.{are_splits, first, repeated, when}
use Rattle.core_model.specs.declared.step.Started.TheVariants as started
use Rattle.core_model.specs.declared.step.Step.TheVariants as step
use Rattle.core_model.specs.Plans.{planned_entries}
use Rattle.core_model.specs.StartGuards.{CanStart, HasHalf, IsTaken, IsWithinLimits, regions_for}
use Rattle.core_model.specs.State.{Parts, no_plan}
use Rattle.world_steps.specs.Starts.{IsJudged, IsServedJob, drawn_by, next_actor, refusals_of_create, start_step}

-- ---- a refusal is not that it went well

not_fine : (e t f s : Option Reply) (reply : Reply) → (e ≡ Some Fine → ⊥) → (t ≡ Some Fine → ⊥) → (f ≡ Some Fine → ⊥) → (s ≡ Some Fine → ⊥) → first (e ∷ t ∷ f ∷ s ∷ []) ≡ Some reply → reply ≢ Fine
not_fine (Some r) t f s reply a b c d e z = a (e ∙ ap Some z)
not_fine None (Some r) f s reply a b c d e z = b (e ∙ ap Some z)
not_fine None None (Some r) s reply a b c d e z = c (e ∙ ap Some z)
not_fine None None None (Some r) reply a b c d e z = d (e ∙ ap Some z)
not_fine None None None None reply a b c d e z = absurd (cc)

exists_not : (b : Bool) → when b TableExists ≡ Some Fine → ⊥
exists_not true e = absurd (cc)
exists_not false e = absurd (cc)

twice_not : (o : Option (List ℕ)) → option_map DuplicateFamily o ≡ Some Fine → ⊥
twice_not None e = absurd (cc)
twice_not (Some f) e = absurd (cc)

split_not : (b : Bool) → when b BadSplitKey ≡ Some Fine → ⊥
split_not true e = absurd (cc)
split_not false e = absurd (cc)

taken_not : (b : Bool) → when b NameTaken ≡ Some Fine → ⊥
taken_not true e = absurd (cc)
taken_not false e = absurd (cc)

create_not_fine : (exists : Bool) (families splits : List (List ℕ)) (taken : Bool) (reply : Reply) → first (refusals_of_create exists families splits taken) ≡ Some reply → reply ≢ Fine
create_not_fine exists families splits taken reply = not_fine (when exists TableExists) (option_map DuplicateFamily (repeated families)) (when (not (are_splits splits)) BadSplitKey) (when taken NameTaken) reply
    (exists_not exists) (twice_not (repeated families)) (split_not (not (are_splits splits))) (taken_not taken)

-- ---- a job is judged

no_half : (t : List ℕ) (families : List (List ℕ)) (versions : ℕ) (splits : List (List ℕ)) (p : Plain) (lists : _) → HasHalf (jobs.Create t families versions splits) p lists → ⊥
no_half t families versions splits p lists h = let z : None ≡ Some (h.table, h.row) = h.splits in absurd (cc)

pub create_judged : (t : List ℕ) (families : List (List ℕ)) (versions : ℕ) (splits : List (List ℕ)) (taken : Bool) (refusal : Option Reply) (regions : List RegionInfo) (s : Parts)
    → regions ≡ regions_for (jobs.Create t families versions splits) s → (taken ≡ true) ↔ IsTaken s.disk s.drawn s.plain regions
    → refusal ≡ first (refusals_of_create (is_table s.plain t) families splits taken) → IsJudged (jobs.Create t families versions splits) refusal s
create_judged t families versions splits taken refusal regions s r h e = record {
  files = record { name_taken = taken; has_references = false };
  are_files = record {
    name_taken = subst (λ (new : List RegionInfo). (taken ≡ true) ↔ IsTaken s.disk s.drawn s.plain new) r h;
    has_references = (λ z. absurd (false≢true z), λ z. absurd (no_half t families versions splits s.plain s.lists z));
  };
  is_first = sym e;
}

-- ---- a job may start so

pub refused_starts : (job : Job) (reply : Reply) (s : Parts) → IsServedJob job → IsWithinLimits job → held_by s.plain.live (holds_of [] s.plain job) ≡ None → IsJudged job (Some reply) s
    → CanStart job (started.Refused reply) (drawn_by job (started.Refused reply) s) s
refused_starts (jobs.Create t families versions splits) reply s k l f j = record {
  activity = tt;
  limits = l;
  unreferenced = [];
  are_unreferenced = tt;
  holds = refl;
  free = f;
  files = j.files;
  are_files = j.are_files;
  answered = (ap (λ o. unwrap_or o Fine) j.is_first, create_not_fine (is_table s.plain t) families splits j.files.name_taken reply j.is_first, record { regions = refl; moment = refl; plan = refl; staged = refl });
}
refused_starts _ reply s k l f j = absurd k

pub live_starts : (job : Job) (s : Parts) → IsServedJob job → IsWithinLimits job → held_by s.plain.live (holds_of [] s.plain job) ≡ None → IsJudged job None s
    → CanStart job (next_actor s) (drawn_by job (next_actor s) s) s
live_starts (jobs.Create t families versions splits) s k l f j = record {
  activity = tt;
  limits = l;
  unreferenced = [];
  are_unreferenced = tt;
  holds = refl;
  free = f;
  files = j.files;
  are_files = j.are_files;
  answered = (ap (λ o. unwrap_or o Fine) j.is_first, record { number = refl; regions = refl; moment = refl; plan = refl; staged = refl });
}
live_starts _ s k l f j = absurd k

-- ---- its step

pub refused_step : (who : Who) (job : Job) (reply : Reply) (holds : List Hold) (s : Parts) → holds ≡ holds_of [] s.plain job
    → step.Start who job (started.Refused reply) (record { regions = []; moment = None; holds = holds; plan = no_plan; staged = [] }) ≡ start_step who job (started.Refused reply) s
refused_step who job reply holds s h = ap (λ (x : List Hold). step.Start who job (started.Refused reply) (record { regions = []; moment = None; holds = x; plan = no_plan; staged = [] })) h

plans_none : (job : Job) (regions : List RegionInfo) (s : Parts) → IsServedJob job → [] ≡ planned_entries job regions s.plain s.snapshots s.lists
plans_none (jobs.Create t families versions splits) regions s k = refl
plans_none _ regions s k = absurd k

pub live_step : (who : Who) (job : Job) (n : ℕ) (regions more : List RegionInfo) (holds : List Hold) (s : Parts) → IsServedJob job → n ≡ s.begun → regions ≡ regions_for job s → more ≡ regions → holds ≡ holds_of [] s.plain job
    → step.Start who job (started.Live (record { 0 = n })) (record { regions = regions; moment = None; holds = holds; plan = record { regions = more; entries = [] }; staged = [] }) ≡ start_step who job (next_actor s) s
live_step who job n regions more holds s k a r m h =
    ap (λ (x : ℕ). step.Start who job (started.Live (record { 0 = x })) (record { regions = regions; moment = None; holds = holds; plan = record { regions = more; entries = [] }; staged = [] })) a
    ∙ ap (λ (x : List RegionInfo). step.Start who job (next_actor s) (record { regions = x; moment = None; holds = holds; plan = record { regions = more; entries = [] }; staged = [] })) r
    ∙ ap (λ (x : List RegionInfo). step.Start who job (next_actor s) (record { regions = regions_for job s; moment = None; holds = holds; plan = record { regions = x; entries = [] }; staged = [] })) (m ∙ r)
    ∙ ap (λ (x : List Hold). step.Start who job (next_actor s) (record { regions = regions_for job s; moment = None; holds = x; plan = record { regions = regions_for job s; entries = [] }; staged = [] })) h
    ∙ ap (λ (x : _). step.Start who job (next_actor s) (record { regions = regions_for job s; moment = None; holds = holds_of [] s.plain job; plan = record { regions = regions_for job s; entries = x }; staged = [] })) (plans_none job (regions_for job s) s k)
