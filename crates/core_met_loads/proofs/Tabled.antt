-- A table of two families and one region in that store.
use Rattle.std.proofs.Common.{◌≡◌, ℕ, true, false, List, [], ◌∷◌, Option, Some, None, refl, sym, ap, ◌∙◌, inl, arith}
use Rattle.std.specs.Prelude.{codes, unwrap_or, is_some}
use Rattle.std.specs.FinMap.{get, empty, entries, insert, put, get-empty, entries-insert}
use Rattle.std.specs.Cmp.Lexicographic.{nat_list_cmp_total}
use Rattle.hb_cell.specs.Order.{bytes_cmp}
use Rattle.hb_records.specs.declared.table_schema.TableSchema.{TableSchema}
use Rattle.region_set.specs.declared.region_set.RegionSet.{RegionSet}
use Rattle.region_set.specs.declared.set_state.SetState.TheVariants as states
use Rattle.region_set.specs.RegionSet.{IsRegionSet}
use Rattle.plain_model.specs.declared.event.Event.TheVariants as event
use Rattle.plain_model.specs.declared.hold.Hold.TheVariants as holds
use Rattle.plain_model.specs.declared.job.Job.TheVariants as jobs
use Rattle.plain_model.specs.declared.parts.PlainTable.{PlainTable}
use Rattle.plain_model.specs.declared.reply.Reply.TheVariants.{Fine, TableExists}
use Rattle.plain_model.specs.Names.{Names}
use Rattle.plain_model.specs.Replies.{first, when, no_files}
use Rattle.core_model.specs.declared.recipe.Recipe.TheVariants as recipes
use Rattle.core_model.specs.declared.step.Started.TheVariants as started
use Rattle.core_model.specs.declared.step.Step.{Step}
use Rattle.core_model.specs.declared.step.Step.TheVariants as step
use Rattle.core_model.specs.Actors.{IsRegion}
use Rattle.core_model.specs.Allows.{Allows}
use Rattle.core_model.specs.Entries.{no_list}
use Rattle.core_model.specs.FileChanges.{set_number}
use Rattle.core_model.specs.Replay.{after}
use Rattle.core_model.specs.StartGuards.{by_new, by_drawn, by_set, by_directory, live_file, archived_file, list_file, back_file}
use Rattle.core_model.specs.State.{Parts}
use Rattle.core_sound.proofs.TablesKept.{put_this}
use Rattle.core_met.proofs.Begin.{info, key, key_is, name1, first_name, who, maker, no_tables, no_entries, no_region, not_two, made}
use Rattle.core_met.proofs.Flush.{flat}
use Rattle.core_met.proofs.Lawful.{family_lawful}
use Rattle.core_met_loads.proofs.Waiting.{waiting, second_family}

abbrev pub schema : TableSchema
schema = record { table = codes "t"; families = (codes "f", 1) ∷ (codes "g", 1) ∷ [] }

abbrev pub tab : PlainTable
tab = record { enabled = true; schema = schema; regions = (info, false) ∷ [] }

abbrev pub set : RegionSet
set = record { number = 1; state = states.Enabled; schema = schema; regions = (info, false) ∷ [] }

abbrev pub create : Step
create = step.Start who (jobs.Create (codes "t") (codes "f" ∷ codes "g" ∷ []) 1 []) (started.Live maker)
    (record { regions = info ∷ []; moment = None; holds = holds.Table (codes "t") ∷ []; plan = record { regions = info ∷ []; entries = [] }; staged = [] })

abbrev pub write_set : Step
write_set = step.WriteTmp maker (recipes.Set (codes "t") set) name1 [] []

abbrev pub commit_set : Step
commit_set = step.CommitRegions maker (codes "t") 0 name1 set (event.Create schema (info ∷ []))

abbrev pub m1 : ℕ → Parts
m1 ttl = after create (waiting ttl)

abbrev pub m2 : ℕ → Parts
m2 ttl = after write_set (m1 ttl)

abbrev pub m3 : ℕ → Parts
m3 ttl = after commit_set (m2 ttl)

abbrev pub m4 : ℕ → Parts
m4 ttl = after made (m3 ttl)

abbrev pub tables : Names PlainTable
tables = insert no_tables (codes "t") tab

pub table_is : get tables (codes "t") ≡ Some tab
table_is = put_this no_tables (codes "t") tab

tables_are : entries tables ≡ (codes "t", tab) ∷ []
tables_are = entries-insert nat_list_cmp_total no_tables (codes "t") tab ∙ ap (λ (es : List (List ℕ × PlainTable)). put bytes_cmp (codes "t") tab es) no_entries

pub in_set : IsRegion tables key
in_set = inl (record { table = tab; stands = table_is; info = info; listed = inl refl; key = key_is })

-- the state with the table, as its values at each region are
abbrev pub b0 : ℕ → Parts
b0 ttl = record (m4 ttl) { lists = λ r. no_list; plain = record (m4 ttl).plain { stable = λ k. []; mem = λ k. []; frozen = λ k. 0; seq = λ k. 0; kept = λ k. 0 } }

pub table_made : (ttl : ℕ) → m4 ttl ≡ b0 ttl
table_made ttl = λ i. record (m4 ttl) {
  lists = λ r. flat no_list r i;
  plain = record (m4 ttl).plain { stable = λ k. flat [] k i; mem = λ k. flat [] k i; frozen = λ k. flat 0 k i; seq = λ k. flat 0 k i; kept = λ k. flat 0 k i };
}

-- ---- each step is allowed

pub create_allowed : (ttl : ℕ) → Allows create (waiting ttl)
create_allowed ttl = record {
  activity = tt;
  limits = ((omega arith), (omega arith), (omega arith));
  unreferenced = [];
  are_unreferenced = tt;
  holds = refl;
  free = refl;
  files = no_files;
  are_files = record {
    name_taken = (
      λ e. absurd (cc),
      λ i. elim i [
        | by_new before between behind r q e d ↦ not_two info before between behind r q e
        | by_drawn r m d ↦ absurd d
        | by_set r m d ↦ no_region _ d
        | by_directory r m d ↦ elim d [ live_file b f h e ↦ absurd (cc) | archived_file b f h e ↦ absurd (cc) | list_file n f e ↦ absurd (cc) | back_file b text f h e ↦ absurd (cc) ]
      ],
    );
    has_references = (λ e. absurd (cc), λ i. let z = i.splits in absurd (cc));
  };
  answered = (
    ap (λ (o : Option PlainTable). unwrap_or (first (when (is_some o) TableExists ∷ None ∷ None ∷ None ∷ [])) Fine) (get-empty bytes_cmp (codes "t")),
    record { number = refl; regions = refl; moment = refl; plan = refl; staged = refl },
  );
}

pub write_set_allowed : (ttl : ℕ) → Allows write_set (m1 ttl)
write_set_allowed ttl = record { live = refl; new = sym first_name; gives = refl }

abbrev Versions : Type 0
Versions = List (List ℕ × ℕ)

families_are : entries {X = ℕ} {R = bytes_cmp} (insert (insert empty (codes "g") 1) (codes "f") 1) ≡ (codes "f", 1) ∷ (codes "g", 1) ∷ []
families_are = entries-insert nat_list_cmp_total (insert (empty {X = ℕ} {R = bytes_cmp}) (codes "g") 1) (codes "f") 1
    ∙ ap (λ (es : Versions). put bytes_cmp (codes "f") 1 es) (entries-insert nat_list_cmp_total (empty {X = ℕ} {R = bytes_cmp}) (codes "g") 1)
    ∙ ap (λ (es : Versions). put bytes_cmp (codes "f") 1 (put bytes_cmp (codes "g") 1 es)) no_entries

pub commit_set_allowed : (ttl : ℕ) → IsRegionSet (codes "t") set → Allows commit_set (m2 ttl)
commit_set_allowed ttl l = record {
  wrote = record { file = record { bytes = []; moment = 0 }; stands = refl; cells = []; known = refl };
  lawful = l;
  replaces = ap set_number (get-empty bytes_cmp (codes "t"));
  number = refl;
  unspent = (omega arith);
  once = refl;
  is_change = (refl, sym (ap (λ fs. record { table = codes "t"; families = fs }) families_are), refl);
  shown = sym (put_this no_tables (codes "t") tab);
  dropped = λ z. absurd (cc);
  flushed = tt;
  built = tt;
}

pub set_lawful : IsRegionSet (codes "t") set
set_lawful = record {
  number = ((omega arith), (omega arith));
  of_table = refl;
  families = (record { name = family_lawful; versions = ((omega arith), (omega arith)) }, ((record { name = second_family; versions = ((omega arith), (omega arith)) }, λ e. absurd (cc)), tt));
  regions = (record { of_table = refl; id = (omega arith); start = record { small = λ i. (omega arith); limit = (omega arith) }; end = tt; end_some = tt }, tt);
  no_families = λ e. absurd (cc);
  no_regions = λ e. absurd (cc);
}
