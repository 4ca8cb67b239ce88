-- The first table is disabled and dropped, and its file archived.
use Rattle.std.proofs.Common.{◌≡◌, ℕ, ◌==◌, false, cond, List, [], ◌∷◌, Option, Some, None, refl, sym, ap, ◌∙◌, subst, inl, inr, arith}
use Rattle.std.specs.Prelude.{codes, map, not, unwrap_or, is_some}
use Rattle.std.specs.List.{AllByRecursion}
use Rattle.std.specs.FinMap.{get, empty, entries, insert, remove}
use Rattle.hex.specs.Hex.{encode_with}
use Rattle.ns_tree.specs.declared.file.FileState.{FileState}
use Rattle.region_set.specs.declared.region_set.RegionSet.{RegionSet}
use Rattle.region_set.specs.declared.set_state.SetState.TheVariants as states
use Rattle.plain_model.specs.declared.event.Event.TheVariants as event
use Rattle.plain_model.specs.declared.hold.Hold.TheVariants as holds
use Rattle.plain_model.specs.declared.job.Job.TheVariants as jobs
use Rattle.plain_model.specs.declared.parts.PlainTable.{PlainTable}
use Rattle.plain_model.specs.declared.region_key.RegionKey.{RegionKey}
use Rattle.plain_model.specs.declared.reply.Reply.TheVariants.{Fine, TableNotFound, TableNotEnabled, TableNotDisabled}
use Rattle.plain_model.specs.declared.who.Actor.{Actor}
use Rattle.plain_model.specs.Found.{regions_in, is_enabled_in}
use Rattle.plain_model.specs.Keys.{key_of, same_key}
use Rattle.plain_model.specs.Names.{Names, change_found}
use Rattle.plain_model.specs.Replies.{first, when, no_files}
use Rattle.plain_model.specs.Rows.{open_of}
use Rattle.core_model.specs.declared.entry.Entry.TheVariants.{Own}
use Rattle.core_model.specs.declared.recipe.Recipe.TheVariants as recipes
use Rattle.core_model.specs.declared.region_files.RegionFiles.{RegionFiles}
use Rattle.core_model.specs.declared.step.Started.TheVariants as started
use Rattle.core_model.specs.declared.step.Step.{Step}
use Rattle.core_model.specs.declared.step.Step.TheVariants as step
use Rattle.cell_sight.specs.Member.{Member}
use Rattle.core_model.specs.Actors.{IsRegion, IsFree}
use Rattle.core_model.specs.Allows.{Allows}
use Rattle.core_model.specs.Entries.{no_list}
use Rattle.core_model.specs.FileChanges.{set_number}
use Rattle.core_model.specs.FileGuards.{next_name}
use Rattle.core_model.specs.Replay.{after}
use Rattle.core_model.specs.State.{Parts, no_plan}
use Rattle.region_set.specs.RegionSet.{IsRegionSet}
use Rattle.core_sound.proofs.Tests.{cond_cases, same_key-true}
use Rattle.core_sound.proofs.TablesKept.{put_this, put_other, taken_at, taken_other}
use Rattle.core_met.proofs.Begin.{info, key, key_is, schema, set, tab, who}
use Rattle.core_met.proofs.Choices.{chosen}
use Rattle.core_met.proofs.Flush.{base, tables, table_is, list}
use Rattle.core_met.proofs.Lawful.{base_lawful}
use Rattle.core_met.proofs.Starts.{no_new_files}
use Rattle.core_met_clones.proofs.Cloning.{cloned, info2, key2, key2_is, tab2, set2, list2, tables2, w0}

abbrev pub w1 : ℕ → Parts
w1 ttl = after cloned (w0 ttl)

abbrev name6 : List ℕ
name6 = codes "00000000000000010000000000000006"

abbrev name7 : List ℕ
name7 = codes "00000000000000010000000000000007"

sixth_name : next_name 1 5 None ≡ name6
unfolding encode_with
sixth_name = refl

seventh_name : next_name 1 6 None ≡ name7
unfolding encode_with
seventh_name = refl

-- ---- the table is disabled

abbrev disabled : PlainTable
disabled = record { enabled = false; schema = schema; regions = (info, false) ∷ [] }

abbrev pub disabled_set : RegionSet
disabled_set = record { number = 2; state = states.Disabled; schema = schema; regions = (info, false) ∷ [] }

abbrev disabler : Actor
disabler = record { 0 = 4 }

abbrev pub disable : Step
disable = step.Start who (jobs.Disable (codes "t")) (started.Live disabler) (record { regions = []; moment = None; holds = holds.Table (codes "t") ∷ []; plan = no_plan; staged = [] })

abbrev pub write_disabled : Step
write_disabled = step.WriteTmp disabler (recipes.Set (codes "t") disabled_set) name6 [] []

abbrev pub commit_disabled : Step
commit_disabled = step.CommitRegions disabler (codes "t") 1 name6 disabled_set (event.Disable (codes "t"))

abbrev pub off : Step
off = step.End disabler None

abbrev pub w2 : ℕ → Parts
w2 ttl = after disable (w1 ttl)

abbrev pub w3 : ℕ → Parts
w3 ttl = after write_disabled (w2 ttl)

abbrev pub w4 : ℕ → Parts
w4 ttl = after commit_disabled (w3 ttl)

-- the state with the table disabled, as its tables are
abbrev tables3 : Names PlainTable
tables3 = insert tables2 (codes "t") disabled

abbrev pub x0 : ℕ → Parts
x0 ttl = record (w4 ttl) { plain = record (w4 ttl).plain { tables = tables3 } }

abbrev turned : Option PlainTable → Names PlainTable
turned o = change_found (codes "t") (λ (x : PlainTable). record x { enabled = false }) tables2 o

first_is : get tables2 (codes "t") ≡ Some tab
first_is = put_other tables (codes "c") tab2 (codes "t") refl ∙ table_is

pub disable_made : (ttl : ℕ) → w4 ttl ≡ x0 ttl
disable_made ttl = λ i. record (w4 ttl) { plain = record (w4 ttl).plain { tables = turned (first_is i) } }

-- ---- and dropped

abbrev pub dropped_set : RegionSet
dropped_set = record { number = 3; state = states.Dropped; schema = record { table = codes "t"; families = [] }; regions = [] }

abbrev dropper : Actor
dropper = record { 0 = 5 }

abbrev pub drop : Step
drop = step.Start who (jobs.Drop (codes "t")) (started.Live dropper) (record { regions = []; moment = None; holds = holds.Table (codes "t") ∷ []; plan = no_plan; staged = [] })

abbrev pub write_dropped : Step
write_dropped = step.WriteTmp dropper (recipes.Set (codes "t") dropped_set) name7 [] []

abbrev pub commit_dropped : Step
commit_dropped = step.CommitRegions dropper (codes "t") 2 name7 dropped_set (event.Drop (codes "t"))

abbrev pub stamp : Step
stamp = step.Stamp dropper base 9

abbrev pub archive : Step
archive = step.Archive dropper base

abbrev pub dropped : Step
dropped = step.End dropper None

abbrev pub x1 : ℕ → Parts
x1 ttl = after off (x0 ttl)

abbrev pub x2 : ℕ → Parts
x2 ttl = after drop (x1 ttl)

abbrev pub x3 : ℕ → Parts
x3 ttl = after write_dropped (x2 ttl)

abbrev pub x4 : ℕ → Parts
x4 ttl = after commit_dropped (x3 ttl)

abbrev pub x5 : ℕ → Parts
x5 ttl = after stamp (x4 ttl)

abbrev pub x6 : ℕ → Parts
x6 ttl = after archive (x5 ttl)

abbrev pub x7 : ℕ → Parts
x7 ttl = after dropped (x6 ttl)

-- ---- each step is allowed

abbrev empty_file : FileState
empty_file = record { bytes = []; moment = 0 }

pub disable_allowed : (ttl : ℕ) → Allows disable (w1 ttl)
disable_allowed ttl = record {
  activity = tt;
  limits = tt;
  unreferenced = [];
  are_unreferenced = tt;
  holds = refl;
  free = refl;
  files = no_files;
  are_files = no_new_files (jobs.Disable (codes "t")) (w1 ttl) refl;
  answered = (
    ap (λ (o : Option PlainTable). unwrap_or (first (when (not (is_some o)) TableNotFound ∷ when (not (is_enabled_in o)) TableNotEnabled ∷ [])) Fine) first_is,
    record { number = refl; regions = refl; moment = refl; plan = refl; staged = refl },
  );
}

pub write_disabled_allowed : (ttl : ℕ) → Allows write_disabled (w2 ttl)
write_disabled_allowed ttl = record { live = refl; new = sym sixth_name; gives = refl }

pub commit_disabled_allowed : (ttl : ℕ) → IsRegionSet (codes "t") disabled_set → Allows commit_disabled (w3 ttl)
commit_disabled_allowed ttl lawful = record {
  wrote = record { file = empty_file; stands = refl; cells = []; known = refl };
  lawful = lawful;
  replaces = ap set_number (put_other (insert empty (codes "t") set) (codes "c") set2 (codes "t") refl ∙ put_this empty (codes "t") set);
  number = refl;
  unspent = (omega arith);
  once = refl;
  is_change = (refl, refl);
  shown = sym (ap (λ o. get (turned o) (codes "t")) first_is ∙ put_this tables2 (codes "t") disabled);
  dropped = λ z. absurd (cc);
  flushed = subst (λ (o : Option PlainTable). AllByRecursion (λ r. (w3 ttl).plain.mem r ≡ []) (map key_of (open_of (regions_in o)))) (sym first_is) (subst (λ r. (w3 ttl).plain.mem r ≡ []) (sym key_is) refl, tt);
  built = tt;
}

disabled_is : get tables3 (codes "t") ≡ Some disabled
disabled_is = put_this tables2 (codes "t") disabled

pub drop_allowed : (ttl : ℕ) → Allows drop (x1 ttl)
drop_allowed ttl = record {
  activity = tt;
  limits = tt;
  unreferenced = [];
  are_unreferenced = tt;
  holds = refl;
  free = refl;
  files = no_files;
  are_files = no_new_files (jobs.Drop (codes "t")) (x1 ttl) refl;
  answered = (
    ap (λ (o : Option PlainTable). unwrap_or (first (when (not (is_some o)) TableNotFound ∷ when (is_enabled_in o) TableNotDisabled ∷ [])) Fine) disabled_is,
    record { number = refl; regions = refl; moment = refl; plan = refl; staged = refl },
  );
}

pub write_dropped_allowed : (ttl : ℕ) → Allows write_dropped (x2 ttl)
write_dropped_allowed ttl = record { live = refl; new = sym seventh_name; gives = refl }

pub commit_dropped_allowed : (ttl : ℕ) → IsRegionSet (codes "t") dropped_set → Allows commit_dropped (x3 ttl)
commit_dropped_allowed ttl lawful = record {
  wrote = record { file = empty_file; stands = refl; cells = []; known = refl };
  lawful = lawful;
  replaces = ap set_number (put_this (insert (insert empty (codes "t") set) (codes "c") set2) (codes "t") disabled_set);
  number = refl;
  unspent = (omega arith);
  once = refl;
  is_change = (refl, refl);
  shown = sym (taken_at tables3 (codes "t") (codes "t"));
  dropped = refl;
  flushed = tt;
  built = tt;
}

abbrev tables4 : Names PlainTable
tables4 = remove tables3 (codes "t")

pub first_gone : get tables4 (codes "t") ≡ None
first_gone = taken_at tables3 (codes "t") (codes "t")

pub second_there : IsRegion tables4 key2
second_there = inl (record { table = tab2; stands = taken_other tables3 (codes "t") (codes "c") refl ∙ put_other tables2 (codes "t") disabled (codes "c") refl ∙ put_this tables (codes "c") tab2; info = info2; listed = inl refl; key = key2_is })

not_first : {P : Type 0} → IsRegion tables4 key → P
not_first (inl i) = let z : None ≡ Some i.table = sym first_gone ∙ i.stands in absurd (cc)
not_first (inr i) = let z : None ≡ Some i.table = sym first_gone ∙ i.stands in absurd (cc)

-- the only list that has the file is that of the region that is gone
not_listed : {P : Type 0} (r : RegionKey) (l : RegionFiles) → cond (same_key r key2) list2 (cond (same_key r (key_of info2)) no_list (cond (same_key r key) list no_list)) ≡ l → IsRegion tables4 r → Member (Own base) l.entries → P
not_listed r l e i m = cond_cases (same_key r key2) list2 (cond (same_key r (key_of info2)) no_list (cond (same_key r key) list no_list)) l e
    (λ d k. (elim (subst (λ (x : RegionFiles). Member (Own base) x.entries) (sym k) m) [ inl q ↦ absurd (cc) | inr q ↦ absurd q ]))
    (λ d k. cond_cases (same_key r (key_of info2)) no_list (cond (same_key r key) list no_list) l k
    (λ d k. absurd (subst (λ (x : RegionFiles). Member (Own base) x.entries) (sym k) m))
    (λ d k. cond_cases (same_key r key) list no_list l k
    (λ d k. not_first (subst (IsRegion tables4) (same_key-true r key d) i))
    (λ d k. absurd (subst (λ (x : RegionFiles). Member (Own base) x.entries) (sym k) m))))

none_pinned : (ttl a : ℕ) → (x4 ttl).pins a ≡ []
none_pinned ttl a = chosen (a == 4) [] _ (chosen (a == 3) [] _ (chosen (a == 3) [] _ (chosen (a == 2) [] _ (chosen (a == 1) [] _ (chosen (a == 1) [] _ (chosen (a == 0) [] [] refl))))))

free : (ttl : ℕ) → IsFree base tables4 (x4 ttl).lists (x4 ttl).pins (x4 ttl).waiting
free ttl = record {
  unlisted = λ o. not_listed o.region ((x4 ttl).lists o.region) refl o.listed o.entry;
  unpinned = λ i. absurd (subst (Member i.pinned.pin) (none_pinned ttl i.actor) i.pinned.stands);
  not_waiting = refl;
}

pub stamp_allowed : (ttl : ℕ) → Allows stamp (x4 ttl)
stamp_allowed ttl = record { live = refl; names = base_lawful; file = empty_file; stands = refl; free = free ttl }

pub archive_allowed : (ttl : ℕ) → Allows archive (x5 ttl)
archive_allowed ttl = record { live = refl; names = base_lawful; file = record { bytes = []; moment = 9 }; stands = refl; stamped = refl; free = free ttl }
