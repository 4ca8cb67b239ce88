-- A clone of the snapshot to another table.
use Rattle.std.proofs.Common.{◌≡◌, ℕ, Bool, true, false, cond, List, [], ◌∷◌, Option, Some, None, refl, sym, ap, ◌∙◌, subst, inl, inr, arith}
use Rattle.std.specs.Prelude.{codes, not, find, option_map, unwrap_or, is_some, zip}
use Rattle.std.specs.FinMap.{get, empty, insert, get-empty}
use Rattle.hex.specs.Hex.{encode_with}
use Rattle.md5.specs.Md5.{md5, digest_bytes, hash_after, compress, rounds, block_words}
use Rattle.std.specs.Fmt.{digits}
use Rattle.hb_cell.specs.Order.{bytes_cmp, same_bytes}
use Rattle.hb_records.specs.declared.region_info.RegionInfo.{RegionInfo}
use Rattle.hb_records.specs.declared.table_schema.TableSchema.{TableSchema}
use Rattle.region_set.specs.declared.region_set.RegionSet.{RegionSet}
use Rattle.region_set.specs.declared.set_state.SetState.TheVariants as states
use Rattle.plain_model.specs.declared.event.Event.TheVariants as event
use Rattle.plain_model.specs.declared.hold.Hold.TheVariants as holds
use Rattle.plain_model.specs.declared.job.Job.{Job}
use Rattle.plain_model.specs.declared.job.Job.TheVariants as jobs
use Rattle.plain_model.specs.declared.parts.PlainSnapshot.{PlainSnapshot}
use Rattle.plain_model.specs.declared.parts.PlainTable.{PlainTable}
use Rattle.plain_model.specs.declared.parts.RegionCopy.{RegionCopy}
use Rattle.plain_model.specs.declared.region_key.RegionKey.{RegionKey}
use Rattle.plain_model.specs.declared.reply.Reply.TheVariants.{Fine, TableExists, SnapshotNotFound}
use Rattle.plain_model.specs.declared.who.Actor.{Actor}
use Rattle.plain_model.specs.Keys.{key_of, same_key}
use Rattle.plain_model.specs.LiveEvents.{region_at, region_in_table}
use Rattle.plain_model.specs.Names.{Names}
use Rattle.plain_model.specs.Replies.{first, when, no_files}
use Rattle.plain_model.specs.SnapshotEvents.{with_snapshot, with_capture}
use Rattle.plain_model.specs.TableEvents.{with_copy}
use Rattle.core_model.specs.declared.entry.Entry.TheVariants.{Link}
use Rattle.core_model.specs.declared.plan.Plan.{Plan}
use Rattle.core_model.specs.declared.recipe.Recipe.TheVariants as recipes
use Rattle.core_model.specs.declared.region_files.RegionFiles.{RegionFiles}
use Rattle.core_model.specs.declared.snapshot.Snapshot.{Snapshot}
use Rattle.core_model.specs.declared.targets.Why.TheVariants as why
use Rattle.core_model.specs.declared.step.Started.TheVariants as started
use Rattle.core_model.specs.declared.step.Step.{Step}
use Rattle.core_model.specs.declared.step.Step.TheVariants as step
use Rattle.core_model.specs.Actors.{IsRegion}
use Rattle.core_model.specs.Allows.{Allows}
use Rattle.core_model.specs.Entries.{IsKey, no_list, region_list}
use Rattle.core_model.specs.FileChanges.{set_number}
use Rattle.core_model.specs.FileGuards.{next_name}
use Rattle.core_model.specs.Keys.{home, same_base}
use Rattle.core_model.specs.ListGuards.{copies_of, number_of_copies}
use Rattle.core_model.specs.Plans.{regions_in, copied_regions, copies_in, planned_for}
use Rattle.core_model.specs.Replay.{after}
use Rattle.core_model.specs.StartGuards.{AreFiles, IsTaken, StandsBelow, by_new, by_drawn, by_set, by_directory, live_file, archived_file, list_file, back_file}
use Rattle.core_model.specs.State.{Parts}
use Rattle.region_set.specs.RegionSet.{IsRegionSet}
use Rattle.core_sound.proofs.Tests.{cond_cases, same_base-true}
use Rattle.core_sound.proofs.TablesKept.{put_this, put_other}
use Rattle.core_met.specs.Met.{cell}
use Rattle.core_met.proofs.Begin.{info, key, key_is, schema, set, tab, who, no_tables, not_two}
use Rattle.core_met.proofs.Flush.{base, tables, table_is}
use Rattle.core_met.proofs.Lawful.{base_lawful}
use Rattle.core_met.proofs.Shot.{taker, shot, u4, u5}

-- ---- the state with the snapshot, as its plain copy is

abbrev pub shot_taken : Step
shot_taken = step.End taker None

abbrev pub v : ℕ → Parts
v ttl = after shot_taken (u5 ttl)

abbrev region_copy : RegionCopy
region_copy = record { region = info; cells = cell ∷ []; number = 1 }

abbrev copy : PlainSnapshot
copy = record { schema = schema; regions = region_copy ∷ [] }

abbrev copies : Names PlainSnapshot
copies = insert empty (codes "n") copy

copy_is : get copies (codes "n") ≡ Some copy
copy_is = put_this empty (codes "n") copy

found : region_at tables key ≡ Some info
found = ap (λ (o : Option PlainTable). region_in_table o key.region) table_is
    ∙ ap (λ (k : RegionKey). option_map (λ (r : RegionInfo × Bool). r.0) (find (λ (r : RegionInfo × Bool). same_bytes k.region key.region) ((info, false) ∷ []))) key_is

captured : (ttl : ℕ) → (u4 ttl).plain.captures 2 key ≡ Some region_copy
captured ttl = ap (λ o. option_map (λ (r : RegionInfo). record { region = r; cells = cell ∷ []; number = 1 }) o) found

copied : (captures : RegionKey → Option RegionCopy) → captures key ≡ Some region_copy → with_snapshot (codes "n") captures (get tables (codes "t")) empty ≡ copies
copied captures e = ap (λ o. with_snapshot (codes "n") captures o empty) table_is
    ∙ ap (λ o. insert (empty {X = PlainSnapshot} {R = bytes_cmp}) (codes "n") (record { schema = schema; regions = with_capture o [] })) (ap captures key_is ∙ e)

abbrev pub v0 : ℕ → Parts
v0 ttl = record (v ttl) { plain = record (v ttl).plain { snapshots = copies } }

pub copy_made : (ttl : ℕ) → v ttl ≡ v0 ttl
copy_made ttl = λ i. record (v ttl) { plain = record (v ttl).plain { snapshots = copied ((u4 ttl).plain.captures 2) (captured ttl) i } }

-- ---- the clone

abbrev pub info2 : RegionInfo
info2 = record { id = 4294967298; table = codes "c"; start = []; end = None }

abbrev pub key2 : RegionKey
key2 = record { table = codes "c"; region = codes "65cd770435c2925e2fe32f1418cc961e" }

pub key2_is : key_of info2 ≡ key2
unfolding digits encode_with md5 digest_bytes hash_after compress rounds block_words
key2_is = refl

abbrev pub schema2 : TableSchema
schema2 = record { table = codes "c"; families = (codes "f", 1) ∷ [] }

abbrev pub tab2 : PlainTable
tab2 = record { enabled = true; schema = schema2; regions = (info2, false) ∷ [] }

abbrev pub set2 : RegionSet
set2 = record { number = 1; state = states.Enabled; schema = schema2; regions = (info2, false) ∷ [] }

abbrev pub list2 : RegionFiles
list2 = record { number = 1; seq = 1; entries = Link base ∷ [] }

abbrev name4 : List ℕ
name4 = codes "00000000000000010000000000000004"

abbrev name5 : List ℕ
name5 = codes "00000000000000010000000000000005"

fourth_name : next_name 1 3 None ≡ name4
unfolding encode_with
fourth_name = refl

fifth_name : next_name 1 4 None ≡ name5
unfolding encode_with
fifth_name = refl

abbrev pub cloner : Actor
cloner = record { 0 = 3 }

abbrev job : Job
job = jobs.Clone (codes "n") (codes "c")

abbrev plan : Plan
plan = record { regions = info2 ∷ []; entries = (key2.region, Link base) ∷ [] }

abbrev pub clone : Step
clone = step.Start who job (started.Live cloner) (record { regions = info2 ∷ []; moment = None; holds = holds.Table (codes "c") ∷ holds.Use (codes "n") ∷ []; plan = plan; staged = [] })

abbrev pub refer_back : Step
refer_back = step.BackRef cloner base key2

abbrev pub link : Step
link = step.Link cloner base key2

abbrev pub write_list : Step
write_list = step.WriteTmp cloner (recipes.List key2 (region_list list2)) name4 [] []

abbrev pub build : Step
build = step.CommitList cloner key2 0 name4 why.Build list2 [] []

abbrev pub write_set : Step
write_set = step.WriteTmp cloner (recipes.Set (codes "c") set2) name5 [] []

abbrev pub commit : Step
commit = step.CommitRegions cloner (codes "c") 0 name5 set2 (event.Clone (codes "n") (codes "c") (info2 ∷ []))

abbrev pub cloned : Step
cloned = step.End cloner None

abbrev pub v1 : ℕ → Parts
v1 ttl = after clone (v0 ttl)

abbrev pub v2 : ℕ → Parts
v2 ttl = after refer_back (v1 ttl)

abbrev pub v3 : ℕ → Parts
v3 ttl = after link (v2 ttl)

abbrev pub v4 : ℕ → Parts
v4 ttl = after write_list (v3 ttl)

abbrev pub v5 : ℕ → Parts
v5 ttl = after build (v4 ttl)

abbrev pub v6 : ℕ → Parts
v6 ttl = after write_set (v5 ttl)

abbrev pub v7 : ℕ → Parts
v7 ttl = after commit (v6 ttl)

-- the state with the clone, as its tables are
abbrev pub tables2 : Names PlainTable
tables2 = insert tables (codes "c") tab2

abbrev pub w0 : ℕ → Parts
w0 ttl = record (v7 ttl) { plain = record (v7 ttl).plain { tables = tables2 } }

pub clone_made : (ttl : ℕ) → v7 ttl ≡ w0 ttl
clone_made ttl = λ i. record (v7 ttl) { plain = record (v7 ttl).plain { tables = with_copy (codes "c") true (info2 ∷ []) (copy_is i) tables } }

-- ---- each step is allowed

abbrev shots : Names Snapshot
shots = insert empty (codes "n") shot

shot_is : get shots (codes "n") ≡ Some shot
shot_is = put_this empty (codes "n") shot

-- the regions to be made, with the plan of them
abbrev planned : Option Snapshot → Plan
planned o = let rs = copied_regions (codes "c") 4294967298 (regions_in o) in record { regions = rs; entries = copies_in (zip rs (regions_in o)) }

plan_is : planned (get shots (codes "n")) ≡ plan
plan_is = ap planned shot_is ∙ ap (λ (k : RegionKey). record { regions = info2 ∷ []; entries = (k.region, Link base) ∷ [] }) key2_is

no_clone : get tables (codes "c") ≡ None
no_clone = put_other no_tables (codes "t") tab (codes "c") refl ∙ get-empty bytes_cmp (codes "c")

not_there : {P : Type 0} → IsRegion tables (key_of info2) → P
not_there (inl i) = let z : None ≡ Some i.table = sym no_clone ∙ i.stands in absurd (cc)
not_there (inr i) = let z : None ≡ Some i.table = sym no_clone ∙ i.stands in absurd (cc)

two_tables : {P : Type 0} → key_of info ≡ key_of info2 → P
two_tables e = let z : true ≡ false = ap (λ (k : RegionKey). same_bytes k.table (codes "t")) e in absurd (cc)

none_below : {P : Type 0} (ttl : ℕ) → StandsBelow (v0 ttl).disk (key_of info2) → P
none_below ttl (live_file b f h e) = cond_cases (same_base b base) (Some (record { bytes = []; moment = 0 })) None (Some f) e
    (λ d i. let z : true ≡ false = ap (λ (k : RegionKey). same_bytes k.table (codes "t")) (ap home (sym (same_base-true b base d)) ∙ h) in absurd (cc))
    (λ d i. absurd (cc))
none_below ttl (archived_file b f h e) = absurd (cc)
none_below ttl (list_file n f e) = absurd (cc)
none_below ttl (back_file b text f h e) = absurd (cc)

is_new : {P : Type 0} (ttl : ℕ) → IsTaken (v0 ttl).disk (v0 ttl).drawn (v0 ttl).plain (info2 ∷ []) → P
is_new ttl (by_new before between behind r q e d) = not_two info2 before between behind r q e
is_new ttl (by_drawn r (inl e) (inl d)) = two_tables (d ∙ ap key_of (sym e))
is_new ttl (by_drawn r (inl e) (inr d)) = absurd d
is_new ttl (by_drawn r (inr m) d) = absurd m
is_new ttl (by_set r (inl e) d) = not_there (subst (λ x. IsRegion tables (key_of x)) (sym e) d)
is_new ttl (by_set r (inr m) d) = absurd m
is_new ttl (by_directory r (inl e) d) = none_below ttl (subst (λ x. StandsBelow (v0 ttl).disk (key_of x)) (sym e) d)
is_new ttl (by_directory r (inr m) d) = absurd m

pub clone_allowed : (ttl : ℕ) → Allows clone (v0 ttl)
clone_allowed ttl = record {
  activity = tt;
  limits = tt;
  unreferenced = [];
  are_unreferenced = tt;
  holds = refl;
  free = refl;
  files = no_files;
  are_files = subst (λ (p : Plan). AreFiles no_files job p.regions (v0 ttl)) (sym plan_is) (record {
    name_taken = (λ e. absurd (cc), λ i. is_new ttl i);
    has_references = (λ e. absurd (cc), λ i. let z = i.splits in absurd (cc));
  });
  answered = (
    ap (λ (o : Option PlainSnapshot). unwrap_or (first (when (not (is_some o)) SnapshotNotFound ∷ when (is_some (get tables (codes "c"))) TableExists ∷ None ∷ [])) Fine) copy_is
        ∙ ap (λ (o : Option PlainTable). unwrap_or (first (None ∷ when (is_some o) TableExists ∷ None ∷ [])) Fine) no_clone,
    record { number = refl; regions = ap (λ (p : Plan). p.regions) (sym plan_is); moment = refl; plan = sym plan_is; staged = refl },
  );
}

pub refer_back_allowed : (ttl : ℕ) → Allows refer_back (v1 ttl)
refer_back_allowed ttl = record { live = refl; built = record { info = info2; region = inl refl; key = key2_is }; entry = Link base; planned = inl refl; reads = refl; refers = refl; new = refl }

pub link_allowed : (ttl : ℕ) → Allows link (v2 ttl)
link_allowed ttl = record { live = refl; built = record { info = info2; region = inl refl; key = key2_is }; planned = inl refl; names = base_lawful; back = record { bytes = []; moment = 0 }; referred = refl; new = refl }

pub write_list_allowed : (ttl : ℕ) → Allows write_list (v3 ttl)
write_list_allowed ttl = record { live = refl; new = sym fourth_name; gives = refl }

-- the region that is built had no list
no_list_yet : (ttl : ℕ) → ((v4 ttl).lists key2).number ≡ 0
no_list_yet ttl = ap (λ (k : RegionKey). (cond (same_key key2 k) no_list no_list).number) key2_is

pub build_allowed : (ttl : ℕ) → IsKey key2 → Allows build (v4 ttl)
build_allowed ttl lawful = record {
  next = record {
    wrote = record { file = record { bytes = []; moment = 0 }; stands = refl; cells = []; known = refl };
    replaces = no_list_yet ttl;
    number = refl;
    unspent = (omega arith);
  };
  allowed = record {
    info = info2;
    region = inl refl;
    key = key2_is;
    names = lawful;
    out = λ i. not_there (subst (IsRegion tables) (sym key2_is) i);
    first = no_list_yet ttl;
    entries = refl;
    files = (record { refers = refl; names = base_lawful; file = record { bytes = []; moment = 0 }; stands = refl }, tt);
    seq = ap (λ o. number_of_copies (info2 ∷ []) (copies_of o) key2) copy_is ∙ ap (λ (k : RegionKey). cond (same_key k key2) (Some 1) None) key2_is;
    none = refl;
    unplanned = refl;
  };
}

pub write_set_allowed : (ttl : ℕ) → Allows write_set (v5 ttl)
write_set_allowed ttl = record { live = refl; new = sym fifth_name; gives = refl }

pub commit_allowed : (ttl : ℕ) → IsRegionSet (codes "c") set2 → Allows commit (v6 ttl)
commit_allowed ttl lawful = record {
  wrote = record { file = record { bytes = []; moment = 0 }; stands = refl; cells = []; known = refl };
  lawful = lawful;
  replaces = ap set_number (put_other empty (codes "t") set (codes "c") refl ∙ get-empty bytes_cmp (codes "c"));
  number = refl;
  unspent = (omega arith);
  once = refl;
  is_change = (refl, refl, refl, refl);
  shown = sym (ap (λ o. get (with_copy (codes "c") true (info2 ∷ []) o tables) (codes "c")) copy_is ∙ put_this tables (codes "c") tab2);
  dropped = λ z. absurd (cc);
  flushed = tt;
  built = (record { number = ap (λ k. ((v6 ttl).lists k).number) key2_is; entries = ap (λ k. ((v6 ttl).lists k).entries) key2_is ∙ sym (ap (planned_for ((key2.region, Link base) ∷ [])) key2_is) }, tt);
}
