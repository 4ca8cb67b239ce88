-- A major compaction of the table, and the archiving of the file that it leaves.
use Rattle.std.proofs.Common.{◌≡◌, ℕ, ◌==◌, true, false, cond, List, [], ◌∷◌, Option, None, refl, sym, ap, ◌∙◌, subst, inl, inr, arith}
use Rattle.std.specs.Prelude.{codes, map, not, unwrap_or, is_some, Ok}
use Rattle.std.specs.FinMap.{get}
use Rattle.hex.specs.Hex.{encode_with}
use Rattle.hb_cell.specs.declared.cell.Cell.{Cell}
use Rattle.hb_cell.specs.Order.{same_bytes}
use Rattle.hb_layout.specs.declared.base.Base.{Base}
use Rattle.ns_tree.specs.declared.file.FileState.{FileState}
use Rattle.plain_model.specs.declared.hold.Hold.TheVariants as holds
use Rattle.plain_model.specs.declared.job.Job.TheVariants as jobs
use Rattle.plain_model.specs.declared.parts.PlainTable.{PlainTable}
use Rattle.plain_model.specs.declared.region_key.RegionKey.{RegionKey}
use Rattle.plain_model.specs.declared.reply.Reply.TheVariants.{Fine, TableNotFound, TableNotEnabled}
use Rattle.plain_model.specs.declared.who.Actor.{Actor}
use Rattle.plain_model.specs.Found.{regions_in, is_enabled_in, families_of_table}
use Rattle.plain_model.specs.Keys.{key_of, same_key}
use Rattle.plain_model.specs.Replies.{first, when, no_files}
use Rattle.plain_model.specs.Rows.{open_of}
use Rattle.core_model.specs.declared.entry.Entry.{Entry}
use Rattle.core_model.specs.declared.entry.Entry.TheVariants.{Own}
use Rattle.core_model.specs.declared.recipe.Recipe.TheVariants as recipes
use Rattle.core_model.specs.declared.region_files.RegionFiles.{RegionFiles}
use Rattle.core_model.specs.declared.targets.MoveFrom.TheVariants as moves
use Rattle.core_model.specs.declared.targets.PinTarget.TheVariants as targets
use Rattle.core_model.specs.declared.targets.Why.TheVariants as why
use Rattle.core_model.specs.declared.step.Started.TheVariants as started
use Rattle.core_model.specs.declared.step.Step.{Step}
use Rattle.core_model.specs.declared.step.Step.TheVariants as step
use Rattle.cell_sight.specs.Member.{Member}
use Rattle.core_model.specs.Actors.{HasHold, IsFree}
use Rattle.core_model.specs.Allows.{Allows}
use Rattle.core_model.specs.Entries.{IsBase, base_of, no_list, region_list}
use Rattle.core_model.specs.FileGuards.{next_name}
use Rattle.core_model.specs.ListGuards.{Merge, IsOutput}
use Rattle.core_model.specs.Recipes.{merged}
use Rattle.core_model.specs.Replay.{after}
use Rattle.core_model.specs.State.{Parts, no_plan}
use Rattle.core_sound.proofs.Tests.{cond_cases}
use Rattle.core_met.specs.Met.{cell}
use Rattle.core_met.proofs.Begin.{key, key_is, who}
use Rattle.core_met.proofs.Choices.{chosen, chosen_each}
use Rattle.core_met.proofs.Flush.{base, tables, table_is, in_set, list}
use Rattle.core_met.proofs.Lawful.{base_lawful}
use Rattle.core_met.proofs.Shot.{u0}
use Rattle.core_met.proofs.Starts.{no_new_files}

abbrev pub compactor : Actor
compactor = record { 0 = 2 }

abbrev pub name4 : List ℕ
name4 = codes "00000000000000010000000000000004"

abbrev name5 : List ℕ
name5 = codes "00000000000000010000000000000005"

pub fourth_name : next_name 1 3 None ≡ name4
unfolding encode_with
fourth_name = refl

fifth_name : next_name 1 4 None ≡ name5
unfolding encode_with
fifth_name = refl

-- the file that takes the cell over
abbrev pub output : Base
output = record { table = codes "t"; region = key.region; family = codes "f"; name = name4 }

abbrev pub list2 : RegionFiles
list2 = record { number = 2; seq = 1; entries = Own output ∷ [] }

abbrev pub compact : Step
compact = step.Start who (jobs.Compact (codes "t") true) (started.Live compactor) (record { regions = []; moment = None; holds = holds.Compact key ∷ []; plan = no_plan; staged = [] })

abbrev pub pin : Step
pin = step.Pin compactor (targets.Region key) (Ok key) true

abbrev pub write : Step
write = step.WriteTmp compactor (recipes.Merge key (Own base ∷ []) true) name4 (cell ∷ []) []

abbrev pub place : Step
place = step.Place compactor (moves.Written name4) output []

abbrev pub write_list : Step
write_list = step.WriteTmp compactor (recipes.List key (region_list list2)) name5 [] []

abbrev pub commit : Step
commit = step.CommitList compactor key 1 name5 (why.Compact true) list2 [] []

abbrev pub unpin : Step
unpin = step.Unpin compactor

-- the moment from which the file's age counts
abbrev pub stamp : Step
stamp = step.Stamp compactor base 9

abbrev pub archive : Step
archive = step.Archive compactor base

abbrev pub compacted : Step
compacted = step.End compactor None

abbrev pub c1 : ℕ → Parts
c1 ttl = after compact (u0 ttl)

abbrev pub c2 : ℕ → Parts
c2 ttl = after pin (c1 ttl)

abbrev pub c3 : ℕ → Parts
c3 ttl = after write (c2 ttl)

abbrev pub c4 : ℕ → Parts
c4 ttl = after place (c3 ttl)

abbrev pub c5 : ℕ → Parts
c5 ttl = after write_list (c4 ttl)

abbrev pub c6 : ℕ → Parts
c6 ttl = after commit (c5 ttl)

abbrev pub c7 : ℕ → Parts
c7 ttl = after unpin (c6 ttl)

abbrev pub c8 : ℕ → Parts
c8 ttl = after stamp (c7 ttl)

abbrev pub c9 : ℕ → Parts
c9 ttl = after archive (c8 ttl)

abbrev pub c10 : ℕ → Parts
c10 ttl = after compacted (c9 ttl)

-- ---- each step is allowed

abbrev pub empty_file : FileState
empty_file = record { bytes = []; moment = 0 }

pub compact_allowed : (ttl : ℕ) → Allows compact (u0 ttl)
compact_allowed ttl = record {
  activity = tt;
  limits = tt;
  unreferenced = [];
  are_unreferenced = tt;
  holds = ap (λ (r : RegionKey). holds.Compact r ∷ []) (sym key_is) ∙ sym (ap (λ (o : Option PlainTable). map holds.Compact (map key_of (open_of (regions_in o)))) table_is);
  free = refl;
  files = no_files;
  are_files = no_new_files (jobs.Compact (codes "t") true) (u0 ttl) refl;
  answered = (
    ap (λ (o : Option PlainTable). unwrap_or (first (when (not (is_some o)) TableNotFound ∷ when (not (is_enabled_in o)) TableNotEnabled ∷ [])) Fine) table_is,
    record { number = refl; regions = refl; moment = refl; plan = refl; staged = refl },
  );
}

pub pin_allowed : (ttl : ℕ) → Allows pin (c1 ttl)
pin_allowed ttl = record { live = refl; answered = (refl, in_set); begins = refl }

-- what a major merge of the file has
abbrev merge_of : Option PlainTable → List Cell
merge_of o = merged true (families_of_table o) (cell ∷ [])

visible_is : merge_of (get tables (codes "t")) ≡ cell ∷ []
visible_is = ap merge_of table_is

pub write_allowed : (ttl : ℕ) → Allows write (c2 ttl)
write_allowed ttl = record { live = refl; new = sym fourth_name; gives = sym visible_is }

pub place_allowed : (ttl : ℕ) → IsBase output → Allows place (c3 ttl)
place_allowed ttl lawful = record {
  live = refl;
  region = in_set;
  names = lawful;
  moved = record {
    recipe = recipes.Merge key (Own base ∷ []) true;
    wrote = record { file = empty_file; stands = refl; cells = cell ∷ []; known = refl };
    fits = (refl, (refl, tt));
    named = refl;
    none = refl;
  };
  number = tt;
}

pub write_list_allowed : (ttl : ℕ) → Allows write_list (c4 ttl)
write_list_allowed ttl = record { live = refl; new = sym fifth_name; gives = refl }

held : (ttl : ℕ) → HasHold (c5 ttl).plain.live 2 (holds.Compact key)
held ttl = record { activity = record { actor = compactor; job = jobs.Compact (codes "t") true; holds = holds.Compact key ∷ [] }; at_work = refl; held = inl refl }

abbrev merge : Merge
merge = record { family = codes "f"; inputs = Own base ∷ []; output = output ∷ [] }

output_fits : (ttl : ℕ) → IsOutput (output ∷ []) 2 key (codes "f") (merge_of (get tables (codes "t"))) (c5 ttl)
output_fits ttl = subst (λ cells. IsOutput (output ∷ []) 2 key (codes "f") cells (c5 ttl)) (sym visible_is) ((λ e. absurd (cc)), record { region = refl; same_family = refl; waiting = refl }, refl, refl)

covered : (e : Entry) → Member e (Own base ∷ []) → codes "f" ≡ (base_of e).family
covered e (inl k) = ap (λ (x : Entry). (base_of x).family) k
covered e (inr m) = absurd m

pub commit_allowed : (ttl : ℕ) → Allows commit (c5 ttl)
commit_allowed ttl = record {
  next = record {
    wrote = record { file = empty_file; stands = refl; cells = []; known = refl };
    replaces = refl;
    number = refl;
    unspent = (omega arith);
  };
  allowed = record {
    region = in_set;
    held = held ttl;
    job = (codes "t", refl);
    pinned = record { region = key; entries = Own base ∷ []; fresh = true };
    pin = refl;
    fresh = λ e. refl;
    merges = merge ∷ [];
    each = (record { takes = refl; some = λ e. absurd (cc); stand = refl; output = output_fits ttl }, tt);
    distinct = (tt, tt);
    covers = λ e m. (merge, inl refl, covered e m);
    entries = refl;
    seq = refl;
    none = refl;
    unplanned = refl;
  };
}

pub unpin_allowed : (ttl : ℕ) → Allows unpin (c6 ttl)
unpin_allowed ttl = (refl, λ e. absurd (cc))

two_files : {P : Type 0} → Own output ≡ Own base → P
two_files e = let z : true ≡ false = ap (λ (x : Entry). same_bytes (base_of x).name name4) e in absurd (cc)

-- the newest lists have the other file alone
not_listed : {P : Type 0} (r : RegionKey) (l : RegionFiles) → cond (same_key r key) list2 (cond (same_key r key) list no_list) ≡ l → Member (Own base) l.entries → P
not_listed {P} r l e m = cond_cases (same_key r key) list2 (cond (same_key r key) list no_list) l e
    (λ d i. (elim (subst (λ (x : RegionFiles). Member (Own base) x.entries) (sym i) m) as (λ z. P) [ inl k ↦ two_files k | inr k ↦ absurd k ]))
    (λ d i. absurd (subst (λ (x : RegionFiles). Member (Own base) x.entries) (sym i ∙ ap (λ b. cond b list no_list) d) m))

none_pinned : (ttl a : ℕ) → (c7 ttl).pins a ≡ []
none_pinned ttl a = chosen_each (a == 2) [] _ _ _ (chosen (a == 1) [] _ (chosen (a == 1) [] _ (chosen (a == 0) [] [] refl)))

free : (ttl : ℕ) → IsFree base tables (c7 ttl).lists (c7 ttl).pins (c7 ttl).waiting
free ttl = record {
  unlisted = λ o. not_listed o.region ((c7 ttl).lists o.region) refl o.entry;
  unpinned = λ i. absurd (subst (Member i.pinned.pin) (none_pinned ttl i.actor) i.pinned.stands);
  not_waiting = refl;
}

pub stamp_allowed : (ttl : ℕ) → Allows stamp (c7 ttl)
stamp_allowed ttl = record { live = refl; names = base_lawful; file = empty_file; stands = refl; free = free ttl }

pub archive_allowed : (ttl : ℕ) → Allows archive (c8 ttl)
archive_allowed ttl = record { live = refl; names = base_lawful; file = record { bytes = []; moment = 9 }; stands = refl; stamped = refl; free = free ttl }
