-- A snapshot of the table behind the flush.
use Rattle.std.proofs.Common.{◌≡◌, ℕ, true, false, [], ◌∷◌, Option, Some, None, refl, sym, ap, ◌∙◌, subst, inl}
use Rattle.std.specs.Prelude.{codes, map, not, option_map, unwrap_or, is_some}
use Rattle.std.specs.List.{filter_map, cons_option, AllByRecursion}
use Rattle.std.specs.FinMap.{get, empty, get-empty}
use Rattle.hb_cell.specs.Order.{bytes_cmp}
use Rattle.core_model.specs.declared.entry.Entry.TheVariants.{Own}
use Rattle.plain_model.specs.declared.hold.Hold.TheVariants as holds
use Rattle.plain_model.specs.declared.job.Job.TheVariants as jobs
use Rattle.plain_model.specs.declared.parts.PlainSnapshot.{PlainSnapshot}
use Rattle.plain_model.specs.declared.parts.PlainTable.{PlainTable}
use Rattle.plain_model.specs.declared.region_key.RegionKey.{RegionKey}
use Rattle.plain_model.specs.declared.reply.Reply.TheVariants.{Fine, TableNotFound, SnapshotExists}
use Rattle.plain_model.specs.declared.who.Actor.{Actor}
use Rattle.plain_model.specs.Found.{regions_in, families_of_table}
use Rattle.plain_model.specs.Keys.{key_of}
use Rattle.plain_model.specs.Names.{Names}
use Rattle.plain_model.specs.Plain.{Plain}
use Rattle.plain_model.specs.Replies.{first, when, no_files}
use Rattle.plain_model.specs.Rows.{open_of}
use Rattle.core_model.specs.declared.region_files.RegionFiles.{RegionFiles}
use Rattle.core_model.specs.declared.snapshot.Snapshot.{Snapshot}
use Rattle.core_model.specs.declared.step.Started.TheVariants as started
use Rattle.core_model.specs.declared.step.Step.{Step}
use Rattle.core_model.specs.declared.step.Step.TheVariants as step
use Rattle.core_model.specs.declared.targets.ManifestPart.TheVariants as parts
use Rattle.core_model.specs.Actors.{InSet, HasHold}
use Rattle.core_model.specs.Allows.{Allows}
use Rattle.core_model.specs.Replay.{after}
use Rattle.core_model.specs.SnapshotGuards.{snapshot_of, copied}
use Rattle.core_model.specs.State.{Parts, no_plan}
use Rattle.core_sound.proofs.TablesKept.{put_this}
use Rattle.core_met.proofs.Begin.{info, key, key_is, schema, tab, who}
use Rattle.core_met.proofs.Flush.{base, flusher, t7, tables, table_is, list}
use Rattle.core_met.proofs.Starts.{no_new_files}

abbrev pub taker : Actor
taker = record { 0 = 2 }

abbrev pub flushed : Step
flushed = step.End flusher None

abbrev pub take : Step
take = step.Start who (jobs.Snapshot (codes "t") (codes "n")) (started.Live taker) (record { regions = []; moment = None; holds = holds.Take (codes "n") (codes "t") ∷ []; plan = no_plan; staged = [] })

abbrev pub capture : Step
capture = step.Capture taker key

abbrev pub write_info : Step
write_info = step.Manifest taker parts.Info (codes "n") (Some 7) []

abbrev pub write_data : Step
write_data = step.Manifest taker parts.Data (codes "n") None []

abbrev pub u0 : ℕ → Parts
u0 ttl = after flushed (t7 ttl)

abbrev pub u1 : ℕ → Parts
u1 ttl = after take (u0 ttl)

abbrev pub u2 : ℕ → Parts
u2 ttl = after capture (u1 ttl)

abbrev pub u3 : ℕ → Parts
u3 ttl = after write_info (u2 ttl)

abbrev pub u4 : ℕ → Parts
u4 ttl = after write_data (u3 ttl)

abbrev pub shot : Snapshot
shot = record { schema = schema; regions = record { info = info; seq = 1; entries = Own base ∷ [] } ∷ [] }

abbrev pub complete : Step
complete = step.Complete taker (codes "n") shot

abbrev pub u5 : ℕ → Parts
u5 ttl = after complete (u4 ttl)

pub take_allowed : (ttl : ℕ) → Allows take (u0 ttl)
take_allowed ttl = record {
  activity = tt;
  limits = tt;
  unreferenced = [];
  are_unreferenced = tt;
  holds = refl;
  free = refl;
  files = no_files;
  are_files = no_new_files (jobs.Snapshot (codes "t") (codes "n")) (u0 ttl) refl;
  answered = (
    ap (λ (o : Option PlainTable). unwrap_or (first (when (not (is_some o)) TableNotFound ∷ when (is_some (get (empty {X = PlainSnapshot} {R = bytes_cmp}) (codes "n"))) SnapshotExists ∷ [])) Fine) table_is
        ∙ ap (λ (o : Option PlainSnapshot). unwrap_or (first (None ∷ when (is_some o) SnapshotExists ∷ [])) Fine) (get-empty bytes_cmp (codes "n")),
    record { number = refl; regions = refl; moment = refl; plan = refl; staged = refl },
  );
}

held : (ttl : ℕ) → HasHold (u1 ttl).plain.live 2 (holds.Take (codes "n") (codes "t"))
held ttl = record { activity = record { actor = taker; job = jobs.Snapshot (codes "t") (codes "n"); holds = holds.Take (codes "n") (codes "t") ∷ [] }; at_work = refl; held = inl refl }

is_open : InSet tables key false
is_open = record { table = tab; stands = table_is; info = info; listed = inl refl; key = key_is }

pub capture_allowed : (ttl : ℕ) → Allows capture (u1 ttl)
capture_allowed ttl = record { snapshot = codes "n"; take = held ttl; is_open = is_open; new = refl; unfrozen = refl }

captured : (captures : RegionKey → Option RegionFiles) → is_some (captures key) ≡ true → AllByRecursion (λ r. is_some (captures r) ≡ true) (map key_of (open_of (regions_in (get tables (codes "t")))))
captured captures e = subst (λ (o : Option PlainTable). AllByRecursion (λ r. is_some (captures r) ≡ true) (map key_of (open_of (regions_in o)))) (sym table_is) (subst (λ r. is_some (captures r) ≡ true) (sym key_is) e, tt)

pub info_allowed : (ttl : ℕ) → Allows write_info (u2 ttl)
info_allowed ttl = record { table = codes "t"; take = held ttl; captured = captured ((u2 ttl).captures 2) refl; undone = refl; new = refl; asked = refl }

pub data_allowed : (ttl : ℕ) → Allows write_data (u3 ttl)
data_allowed ttl = record { table = codes "t"; take = held ttl; captured = captured ((u3 ttl).captures 2) refl; undone = refl; new = refl; asked = refl }

-- what was captured is the snapshot
shot_is : (captures : RegionKey → Option RegionFiles) (p : Plain) → p.tables ≡ tables → captures key ≡ Some list → shot ≡ snapshot_of captures (codes "t") p
shot_is captures p t e = sym (
    ap (λ (m : Names PlainTable). let o = get m (codes "t") in record { schema = record { table = codes "t"; families = families_of_table o }; regions = filter_map (copied captures) (open_of (regions_in o)) }) t
    ∙ ap (λ (o : Option PlainTable). record { schema = record { table = codes "t"; families = families_of_table o }; regions = filter_map (copied captures) (open_of (regions_in o)) }) table_is
    ∙ ap (λ (o : Option RegionFiles). record { schema = schema; regions = cons_option (option_map (λ (v : RegionFiles). record { info = info; seq = v.seq; entries = v.entries }) o) [] }) (ap captures key_is ∙ e))

pub complete_allowed : (ttl : ℕ) → Allows complete (u4 ttl)
complete_allowed ttl = record {
  table = codes "t";
  take = held ttl;
  missing = get-empty bytes_cmp (codes "n");
  wrote_info = refl;
  wrote_manifest = refl;
  info = record { bytes = []; moment = 0 };
  info_stands = refl;
  manifest = record { bytes = []; moment = 0 };
  manifest_stands = refl;
  copied = shot_is ((u4 ttl).captures 2) (u4 ttl).plain refl refl;
}

pub shot_there : (ttl : ℕ) → get (u5 ttl).snapshots (codes "n") ≡ Some shot
shot_there ttl = put_this (u4 ttl).snapshots (codes "n") shot
