-- What a step makes of the parts that actors have: plans, pins, stamps, placed files, captures, parts of manifests.
use Rattle.std.specs.Prelude.{ℕ, ◌+◌, ◌==◌, ◌&&◌, Bool, true, false, not, cond, List, [], ◌∷◌, ◌++◌, map, Option, Some, None, Ok}
use Rattle.hb_layout.specs.declared.base.Base.{Base}
use Rattle.plain_model.specs.declared.region_key.RegionKey.{RegionKey}
use Rattle.plain_model.specs.Keys.{same_key, set_for}
use Rattle.plain_model.specs.LiveEvents.{cleared}
use Rattle.core_model.specs.declared.plan.Plan.{Plan}
use Rattle.core_model.specs.declared.region_files.RegionFiles.{RegionFiles}
use Rattle.core_model.specs.declared.targets.ManifestPart.TheVariants as parts
use Rattle.core_model.specs.declared.targets.Why.TheVariants as why
use Rattle.core_model.specs.declared.step.Started.TheVariants.{Live}
use Rattle.core_model.specs.declared.step.Step.{Step}
use Rattle.core_model.specs.declared.step.Step.TheVariants as step
use Rattle.core_model.specs.Keys.{set_actor, set_base, set_name}
use Rattle.core_model.specs.Entries.{has_own}
use Rattle.core_model.specs.State.{Pinned, Placed, Parted, no_plan}

abbrev pub begun_by : Step → ℕ → ℕ
begun_by (step.Start who job (Live actor) drawn) begun = begun + 1
begun_by _ begun = begun

-- the worker of each actor, which stays known
abbrev pub owners_by : Step → (ℕ → Option ℕ) → ℕ → Option ℕ
owners_by (step.Start who job (Live actor) drawn) owners = set_actor actor.0 (Some who.worker) owners
owners_by _ owners = owners

-- a commit of regions frees the plan; a commit of a list by a split adds the halves of what the list gains
abbrev pub plans_by : Step → (ℕ → Plan) → ℕ → Plan
plans_by (step.Start who job (Live actor) drawn) plans = set_actor actor.0 drawn.plan plans
plans_by (step.CommitList actor region number name why list cells planned) plans =
    set_actor actor.0 (record { regions = (plans actor.0).regions; entries = (plans actor.0).entries ++ planned }) plans
plans_by (step.CommitRegions actor table number name new change) plans = set_actor actor.0 no_plan plans
plans_by (step.End actor refusal) plans = set_actor actor.0 no_plan plans
plans_by (step.Abandon actor) plans = set_actor actor.0 no_plan plans
plans_by _ plans = plans

-- a pin of a region is stale once its actor has committed a list there
abbrev pub stale_at : RegionKey → Pinned → Pinned
stale_at region p = record { region = p.region; entries = p.entries; fresh = p.fresh && not (same_key p.region region) }

abbrev pub pins_by : Step → (RegionKey → RegionFiles) → (ℕ → List Pinned) → ℕ → List Pinned
pins_by (step.Pin actor target (Ok region) major) lists pins = set_actor actor.0 (record { region = region; entries = (lists region).entries; fresh = true } ∷ pins actor.0) pins
pins_by (step.CommitList actor region number name why list cells planned) lists pins = set_actor actor.0 (map (stale_at region) (pins actor.0)) pins
pins_by (step.Unpin actor) lists pins = set_actor actor.0 [] pins
pins_by (step.End actor refusal) lists pins = set_actor actor.0 [] pins
pins_by (step.Abandon actor) lists pins = set_actor actor.0 [] pins
pins_by _ lists pins = pins

abbrev pub stamps_by : Step → (ℕ → Base → Bool) → ℕ → Base → Bool
stamps_by (step.Stamp actor base moment) stamps = set_actor actor.0 (set_base base true (stamps actor.0)) stamps
stamps_by (step.End actor refusal) stamps = set_actor actor.0 (λ b. false) stamps
stamps_by (step.Abandon actor) stamps = set_actor actor.0 (λ b. false) stamps
stamps_by _ stamps = stamps

abbrev pub placed_by : Step → (ℕ → List Placed) → ℕ → List Placed
placed_by (step.Place actor from base cells) placed = set_actor actor.0 (placed actor.0 ++ record { base = base; from = from } ∷ []) placed
placed_by (step.End actor refusal) placed = set_actor actor.0 [] placed
placed_by (step.Abandon actor) placed = set_actor actor.0 [] placed
placed_by _ placed = placed

-- no longer waiting for this actor
abbrev pub unless_by : ℕ → Option ℕ → Option ℕ
unless_by actor None = None
unless_by actor (Some by) = cond (by == actor) None (Some by)

abbrev pub waiting_by : Step → (Base → Option ℕ) → Base → Option ℕ
waiting_by (step.Place actor from base cells) waiting = set_base base (Some actor.0) waiting
waiting_by (step.CommitList actor region number name why list cells planned) waiting = λ b. cond (has_own list.entries b) None (waiting b)
waiting_by (step.End actor refusal) waiting = λ b. unless_by actor.0 (waiting b)
waiting_by (step.Abandon actor) waiting = λ b. unless_by actor.0 (waiting b)
waiting_by _ waiting = waiting

abbrev pub captures_by : Step → (RegionKey → RegionFiles) → (ℕ → RegionKey → Option RegionFiles) → ℕ → RegionKey → Option RegionFiles
captures_by (step.Capture actor region) lists captures = set_for actor.0 region (Some (lists region)) captures
captures_by (step.CommitList actor region number name why.Capture list cells planned) lists captures = set_for actor.0 region (Some list) captures
captures_by (step.End actor refusal) lists captures = cleared actor.0 captures
captures_by (step.Abandon actor) lists captures = cleared actor.0 captures
captures_by _ lists captures = captures

abbrev pub loads_by : Step → (ℕ → List (List ℕ × List ℕ)) → ℕ → List (List ℕ × List ℕ)
loads_by (step.Start who job (Live actor) drawn) loads = set_actor actor.0 drawn.staged loads
loads_by (step.End actor refusal) loads = set_actor actor.0 [] loads
loads_by (step.Abandon actor) loads = set_actor actor.0 [] loads
loads_by _ loads = loads

abbrev pub changed_by : Step → (ℕ → List ℕ → Bool) → ℕ → List ℕ → Bool
changed_by (step.CommitRegions actor table number name new change) changed = set_actor actor.0 (set_name table true (changed actor.0)) changed
changed_by (step.End actor refusal) changed = set_actor actor.0 (λ t. false) changed
changed_by (step.Abandon actor) changed = set_actor actor.0 (λ t. false) changed
changed_by _ changed = changed

-- no part of a manifest, and no snapshot
abbrev pub no_part : Parted
no_part = record { info = false; manifest = false; done = false }

abbrev pub parted_by : Step → (ℕ → Parted) → ℕ → Parted
parted_by (step.Start who job (Live actor) drawn) parted = set_actor actor.0 no_part parted
parted_by (step.Manifest actor parts.Info snapshot moment bytes) parted = set_actor actor.0 (record { info = true; manifest = (parted actor.0).manifest; done = (parted actor.0).done }) parted
parted_by (step.Manifest actor parts.Data snapshot moment bytes) parted = set_actor actor.0 (record { info = (parted actor.0).info; manifest = true; done = (parted actor.0).done }) parted
parted_by (step.Complete actor snapshot copied) parted = set_actor actor.0 (record { info = false; manifest = false; done = true }) parted
parted_by (step.End actor refusal) parted = set_actor actor.0 no_part parted
parted_by (step.Abandon actor) parted = set_actor actor.0 no_part parted
parted_by _ parted = parted
