-- A journal that makes a table, puts a cell and flushes it.
use Rattle.std.proofs.Common.{◌≡◌, ℕ, true, false, cond, List, [], ◌∷◌, Option, Some, None, refl, sym, ap, ◌∙◌, inl, arith}
use Rattle.std.specs.Prelude.{codes, map, not, option_map, unwrap_or, is_some}
use Rattle.std.specs.List.{list_any}
use Rattle.std.specs.FinMap.{get, entries, insert, put, entries-insert}
use Rattle.std.specs.Cmp.Lexicographic.{nat_list_cmp_total}
use Rattle.hex.specs.Hex.{encode_with}
use Rattle.hb_cell.specs.Order.{bytes_cmp, same_bytes}
use Rattle.hb_cell.specs.declared.kind.Kind.TheVariants as kinds
use Rattle.hb_layout.specs.declared.base.Base.{Base}
use Rattle.plain_model.specs.declared.hold.Hold.TheVariants as holds
use Rattle.plain_model.specs.declared.job.Job.TheVariants as jobs
use Rattle.plain_model.specs.declared.parts.PlainTable.{PlainTable}
use Rattle.plain_model.specs.declared.region_key.RegionKey.{RegionKey}
use Rattle.plain_model.specs.declared.reply.Reply.TheVariants.{Fine, TableNotFound, TableNotEnabled, UnknownFamily}
use Rattle.plain_model.specs.declared.who.Actor.{Actor}
use Rattle.plain_model.specs.CellEvents.{each_with}
use Rattle.plain_model.specs.Found.{regions_in, is_enabled_in, families_of_table}
use Rattle.plain_model.specs.Keys.{key_of, same_key, set_each}
use Rattle.plain_model.specs.Names.{Names}
use Rattle.plain_model.specs.Replies.{first, when, no_files}
use Rattle.plain_model.specs.Rows.{open_of, region_of}
use Rattle.core_model.specs.declared.entry.Entry.TheVariants.{Own}
use Rattle.core_model.specs.declared.recipe.Recipe.TheVariants as recipes
use Rattle.core_model.specs.declared.region_files.RegionFiles.{RegionFiles}
use Rattle.core_model.specs.declared.targets.MoveFrom.TheVariants as moves
use Rattle.core_model.specs.declared.targets.Why.TheVariants as why
use Rattle.core_model.specs.declared.step.Started.TheVariants as started
use Rattle.core_model.specs.declared.step.Step.{Step}
use Rattle.core_model.specs.declared.step.Step.TheVariants as step
use Rattle.core_model.specs.Actors.{IsRegion, HasHold, by_flush, commits_flush}
use Rattle.core_model.specs.Allows.{Allows}
use Rattle.core_model.specs.Entries.{IsBase, no_list, region_list}
use Rattle.core_model.specs.FileGuards.{next_name}
use Rattle.core_model.specs.Replay.{after}
use Rattle.core_model.specs.State.{Parts, no_plan}
use Rattle.core_sound.proofs.TablesKept.{put_this}
use Rattle.core_met.specs.Met.{cell}
use Rattle.core_met.proofs.Begin.{info, key, key_is, tab, who, s4, no_tables, no_entries}
use Rattle.core_met.proofs.Starts.{no_new_files}

abbrev pub tables : Names PlainTable
tables = insert no_tables (codes "t") tab

pub table_is : get tables (codes "t") ≡ Some tab
table_is = put_this no_tables (codes "t") tab

pub tables_are : entries tables ≡ (codes "t", tab) ∷ []
tables_are = entries-insert nat_list_cmp_total no_tables (codes "t") tab ∙ ap (λ (es : List (List ℕ × PlainTable)). put bytes_cmp (codes "t") tab es) no_entries

-- the state with the table, as its values at each region are
abbrev pub t0 : ℕ → Parts
t0 ttl = record (s4 ttl) { lists = λ r. no_list; plain = record (s4 ttl).plain { stable = λ k. []; mem = λ k. []; frozen = λ k. 0; seq = λ k. 0; kept = λ k. 0 } }

pub flat : {A : Type 0} (v : A) (k : RegionKey) → set_each (each_with v (info ∷ [])) (λ k. v) k ≡ v
flat v k = elim (same_key k (key_of info)) as (λ b. cond b v v ≡ v) [ true ↦ refl | false ↦ refl ]

pub table_made : (ttl : ℕ) → s4 ttl ≡ t0 ttl
table_made ttl = λ i. record (s4 ttl) {
  lists = λ r. flat no_list r i;
  plain = record (s4 ttl).plain { stable = λ k. flat [] k i; mem = λ k. flat [] k i; frozen = λ k. flat 0 k i; seq = λ k. flat 0 k i; kept = λ k. flat 0 k i };
}

-- ---- a put and its flush

abbrev pub name2 : List ℕ
name2 = codes "00000000000000010000000000000002"

abbrev pub name3 : List ℕ
name3 = codes "00000000000000010000000000000003"

pub second_name : next_name 1 1 None ≡ name2
unfolding encode_with
second_name = refl

third_name : next_name 1 2 None ≡ name3
unfolding encode_with
third_name = refl

abbrev pub base : Base
base = record { table = codes "t"; region = key.region; family = codes "f"; name = name2 }

abbrev pub list : RegionFiles
list = record { number = 1; seq = 1; entries = Own base ∷ [] }

abbrev pub flusher : Actor
flusher = record { 0 = 1 }

abbrev pub put_cell : Step
put_cell = step.PutCell who (codes "t") (record { row = codes "r"; family = codes "f"; qualifier = codes "q"; ts = Some 5; kind = kinds.Put; value = codes "v" }) None (Some (key.region, 1))

abbrev pub start : Step
start = step.Start who (jobs.Flush (codes "t")) (started.Live flusher) (record { regions = []; moment = None; holds = holds.Flush key ∷ []; plan = no_plan; staged = [] })

abbrev pub freeze : Step
freeze = step.Freeze flusher key

abbrev pub write : Step
write = step.WriteTmp flusher (recipes.Frozen key (codes "f")) name2 (cell ∷ []) []

abbrev pub place : Step
place = step.Place flusher (moves.Written name2) base []

abbrev pub write_list : Step
write_list = step.WriteTmp flusher (recipes.List key (region_list list)) name3 [] []

abbrev pub commit : Step
commit = step.CommitList flusher key 0 name3 why.Flush list [] []

abbrev pub t1 : ℕ → Parts
t1 ttl = after put_cell (t0 ttl)

abbrev pub t2 : ℕ → Parts
t2 ttl = after start (t1 ttl)

abbrev pub t3 : ℕ → Parts
t3 ttl = after freeze (t2 ttl)

abbrev pub t4 : ℕ → Parts
t4 ttl = after write (t3 ttl)

abbrev pub t5 : ℕ → Parts
t5 ttl = after place (t4 ttl)

abbrev pub t6 : ℕ → Parts
t6 ttl = after write_list (t5 ttl)

abbrev pub t7 : ℕ → Parts
t7 ttl = after commit (t6 ttl)

pub in_set : IsRegion tables key
in_set = inl (record { table = tab; stands = table_is; info = info; listed = inl refl; key = key_is })

pub put_allowed : (ttl : ℕ) → Allows put_cell (t0 ttl)
put_allowed ttl = record {
  free = refl;
  answered = (
    ap (λ (o : Option PlainTable). unwrap_or (first (when (not (is_some o)) TableNotFound ∷ when (not (is_enabled_in o)) TableNotEnabled ∷ when (not (list_any (λ f. same_bytes f.0 (codes "f")) (families_of_table o))) (UnknownFamily (codes "f")) ∷ [])) Fine) table_is,
    ap (λ (o : Option PlainTable). option_map key_of (region_of (regions_in o) (codes "r"))) table_is ∙ ap Some key_is,
    refl,
    (omega arith),
    refl,
  );
}

pub start_allowed : (ttl : ℕ) → Allows start (t1 ttl)
start_allowed ttl = record {
  activity = tt;
  limits = tt;
  unreferenced = [];
  are_unreferenced = tt;
  holds = ap (λ (r : RegionKey). holds.Flush r ∷ []) (sym key_is) ∙ sym (ap (λ (o : Option PlainTable). map holds.Flush (map key_of (open_of (regions_in o)))) table_is);
  free = refl;
  files = no_files;
  are_files = no_new_files (jobs.Flush (codes "t")) (t1 ttl) refl;
  answered = (
    ap (λ (o : Option PlainTable). unwrap_or (first (when (not (is_some o)) TableNotFound ∷ when (not (is_enabled_in o)) TableNotEnabled ∷ [])) Fine) table_is,
    record { number = refl; regions = refl; moment = refl; plan = refl; staged = refl },
  );
}

held : (ttl : ℕ) → HasHold (t2 ttl).plain.live 1 (holds.Flush key)
held ttl = record { activity = record { actor = flusher; job = jobs.Flush (codes "t"); holds = holds.Flush key ∷ [] }; at_work = refl; held = inl refl }

pub freeze_allowed : (ttl : ℕ) → Allows freeze (t2 ttl)
freeze_allowed ttl = (by_flush (held ttl), in_set)

pub write_allowed : (ttl : ℕ) → Allows write (t3 ttl)
write_allowed ttl = record { live = refl; new = sym second_name; gives = refl }

pub place_allowed : (ttl : ℕ) → IsBase base → Allows place (t4 ttl)
place_allowed ttl n = record {
  live = refl;
  region = in_set;
  names = n;
  moved = record {
    recipe = recipes.Frozen key (codes "f");
    wrote = record { file = record { bytes = []; moment = 0 }; stands = refl; cells = cell ∷ []; known = refl };
    fits = (refl, refl);
    named = refl;
    none = refl;
  };
  number = tt;
}

pub write_list_allowed : (ttl : ℕ) → Allows write_list (t5 ttl)
write_list_allowed ttl = record { live = refl; new = sym third_name; gives = refl }

pub commit_allowed : (ttl : ℕ) → Allows commit (t6 ttl)
commit_allowed ttl = record {
  next = record {
    wrote = record { file = record { bytes = []; moment = 0 }; stands = refl; cells = []; known = refl };
    replaces = refl;
    number = refl;
    unspent = (omega arith);
  };
  allowed = (
    commits_flush (held ttl),
    record {
      region = in_set;
      added = base ∷ [];
      files = (record { waits = record { region = refl; same_family = refl; waiting = refl }; unnumbered = refl; made = refl }, tt);
      entries = refl;
      seq = refl;
      none = refl;
      halves = refl;
    },
  );
}
