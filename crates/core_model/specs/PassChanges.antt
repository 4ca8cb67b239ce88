-- What a step makes of the open pass: which bases gain a name, and what is read.
use Rattle.std.specs.Prelude.{ℕ, ◌==◌, ◌||◌, Bool, false, not, cond, List, [], ◌∷◌, map, Option, Some, None, option_map, Ok}
use Rattle.std.specs.List.{filter, flat_map, list_any}
use Rattle.std.specs.FinMap.{get, keys}
use Rattle.hb_layout.specs.declared.base.Base.{Base}
use Rattle.plain_model.specs.declared.region_key.RegionKey.{RegionKey}
use Rattle.hb_cell.specs.Order.{same_bytes}
use Rattle.plain_model.specs.Names.{Names}
use Rattle.core_model.specs.declared.entry.Entry.{Entry}
use Rattle.core_model.specs.declared.region_files.RegionFiles.{RegionFiles}
use Rattle.core_model.specs.declared.snapshot.Snapshot.{Snapshot}
use Rattle.core_model.specs.declared.snapshot.CopiedRegion.{CopiedRegion}
use Rattle.core_model.specs.declared.targets.Why.TheVariants as why
use Rattle.core_model.specs.declared.step.Started.TheVariants.{Live}
use Rattle.core_model.specs.declared.step.Step.{Step}
use Rattle.core_model.specs.declared.step.Step.TheVariants as step
use Rattle.core_model.specs.Keys.{same_base}
use Rattle.core_model.specs.Entries.{base_of}
use Rattle.core_model.specs.State.{Pass}

-- the bases that gain a name by a step
abbrev pub names_of : Step → (RegionKey → RegionFiles) → List Base
names_of (step.Start who job (Live actor) drawn) lists = map (λ (x : List ℕ × Entry). base_of x.1) drawn.plan.entries
names_of (step.Capture actor region) lists = map base_of (lists region).entries
names_of (step.CommitList actor region number name why.Capture list cells planned) lists = map base_of list.entries
names_of (step.Pin actor target (Ok region) major) lists = map base_of (lists region).entries
names_of (step.Place actor from base cells) lists = base ∷ []
names_of (step.Link actor base region) lists = base ∷ []
names_of (step.Half actor entry region bytes) lists = base_of entry ∷ []
names_of _ lists = []

-- whether a base is one of these
abbrev pub is_one_of : List Base → Base → Bool
is_one_of bs b = list_any (same_base b) bs

-- the entries of a snapshot's regions, and their bases
abbrev pub snapshot_entries : Snapshot → List Entry
snapshot_entries s = flat_map (λ (r : CopiedRegion). r.entries) s.regions

abbrev pub snapshot_bases : Option Snapshot → List Base
snapshot_bases None = []
snapshot_bases (Some s) = map base_of (snapshot_entries s)

-- names without one
abbrev pub without_name : List ℕ → List (List ℕ) → List (List ℕ)
without_name name names = filter (λ n. not (same_bytes n name)) names

-- a pass that has gained names
abbrev pub touched : List Base → Pass → Pass
touched bs p = record { actor = p.actor; moment = p.moment; unread = p.unread; read = p.read; touched = λ b. is_one_of bs b || p.touched b }

-- a pass that has read a snapshot
abbrev pub read_by : List ℕ → List Base → Pass → Pass
read_by name bs p = record { actor = p.actor; moment = p.moment; unread = without_name name p.unread; read = λ b. is_one_of bs b || p.read b; touched = p.touched }

-- a pass that need not read a snapshot, which is gone
abbrev pub spared : List ℕ → Pass → Pass
spared name p = record { actor = p.actor; moment = p.moment; unread = without_name name p.unread; read = p.read; touched = p.touched }

-- no pass where it was this actor's
abbrev pub ended : ℕ → Option Pass → Option Pass
ended actor None = None
ended actor (Some p) = cond (p.actor == actor) None (Some p)

-- a start that read a moment opens a pass
abbrev pub opened_by : ℕ → Option ℕ → List (List ℕ) → List Base → Option Pass → Option Pass
opened_by actor (Some moment) names bs pass = Some (record { actor = actor; moment = moment; unread = names; read = λ b. false; touched = λ b. false })
opened_by actor None names bs pass = option_map (touched bs) pass

abbrev pub pass_by : Step → (RegionKey → RegionFiles) → Names Snapshot → Option Pass → Option Pass
pass_by (step.Start who job (Live actor) drawn) lists snapshots pass = opened_by actor.0 drawn.moment (keys snapshots) (map (λ (x : List ℕ × Entry). base_of x.1) drawn.plan.entries) pass
pass_by (step.End actor refusal) lists snapshots pass = ended actor.0 pass
pass_by (step.Abandon actor) lists snapshots pass = ended actor.0 pass
pass_by (step.PassRead actor name) lists snapshots pass = option_map (read_by name (snapshot_bases (get snapshots name))) pass
pass_by (step.Uncomplete actor name) lists snapshots pass = option_map (spared name) pass
pass_by (step.Capture actor region) lists snapshots pass = option_map (touched (map base_of (lists region).entries)) pass
pass_by (step.CommitList actor region number name why.Capture list cells planned) lists snapshots pass = option_map (touched (map base_of list.entries)) pass
pass_by (step.Pin actor target (Ok region) major) lists snapshots pass = option_map (touched (map base_of (lists region).entries)) pass
pass_by (step.Place actor from base cells) lists snapshots pass = option_map (touched (base ∷ [])) pass
pass_by (step.Link actor base region) lists snapshots pass = option_map (touched (base ∷ [])) pass
pass_by (step.Half actor entry region bytes) lists snapshots pass = option_map (touched (base_of entry ∷ [])) pass
pass_by _ lists snapshots pass = pass
