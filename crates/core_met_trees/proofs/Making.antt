-- A table is made over an empty store, with the bytes of its set.
use Rattle.std.proofs.Common.{◌≡◌, ℕ, List, [], ◌∷◌, Some, refl, sym, ap, subst, ◌∙◌, inl, arith}
use Rattle.std.specs.Prelude.{codes}
use Rattle.std.specs.FinMap.{empty, get-empty}
use Rattle.hb_cell.specs.Order.{bytes_cmp}
use Rattle.ns_tree.specs.declared.file.FileState.{FileState}
use Rattle.region_set.specs.RegionSet.{region_set_text}
use Rattle.core_model.specs.declared.journal.JournalEntry.{JournalEntry}
use Rattle.core_model.specs.declared.recipe.Recipe.TheVariants as recipes
use Rattle.core_model.specs.declared.step.Step.{Step}
use Rattle.core_model.specs.declared.step.Step.TheVariants as step
use Rattle.core_model.specs.Allows.{Allows, AllowsFrom}
use Rattle.core_model.specs.FileChanges.{set_number}
use Rattle.core_model.specs.Replay.{after, replay, replay_from}
use Rattle.core_model.specs.Site.{RegionSet}
use Rattle.core_model.specs.State.{Parts}
use Rattle.core_sound.specs.Laws.{bare_opening}
use Rattle.core_sound.proofs.TablesKept.{put_this}
use Rattle.core_met.proofs.Begin.{begin, commit_set, create, create_allowed, families_are, first_name, made, maker, name1, no_tables, opened_is, s1, set, tab}
use Rattle.core_met.proofs.Journal.{both, entry}
use Rattle.core_met.proofs.Lawful.{set_lawful, table_lawful}
use Rattle.core_trees.specs.Trees.{HaveNames}
use Rattle.core_trees.proofs.Shown.{journal_shown}
use Rattle.core_bytes.specs.Laws.{WriteFrom}
use Rattle.core_opens.proofs.Bare.{bare_begins}
use Rattle.core_opens.proofs.Opens.{begins_valid}
use Rattle.core_fits.proofs.Valid.{stays_valid}
use Rattle.core_met_trees.specs.Made.{TableIsMade}

abbrev write_text : Step
write_text = step.WriteTmp maker (recipes.Set (codes "t") set) name1 [] (region_set_text set)

abbrev made_file : FileState
made_file = record { bytes = region_set_text set; moment = 0 }

abbrev r2 : ℕ → Parts
r2 ttl = after write_text (s1 ttl)

abbrev entries : List JournalEntry
entries = entry create ∷ entry write_text ∷ entry commit_set ∷ entry made ∷ []

write_allowed : (ttl : ℕ) → Allows write_text (s1 ttl)
write_allowed ttl = record { live = refl; new = sym first_name; gives = refl }

commit_allowed : (ttl : ℕ) → Allows commit_set (r2 ttl)
commit_allowed ttl = record {
  wrote = record { file = made_file; stands = refl; cells = []; known = refl };
  lawful = set_lawful;
  replaces = ap set_number (get-empty bytes_cmp (codes "t"));
  number = refl;
  unspent = (omega arith);
  once = refl;
  is_change = (refl, sym (ap (λ fs. record { table = codes "t"; families = fs }) families_are), refl);
  shown = sym (put_this no_tables (codes "t") tab);
  dropped = λ z. absurd (cc);
  flushed = tt;
  built = tt;
}

-- what holds of the entries from this state on
record Making (s : Parts) : Type 0 where
  allowed : AllowsFrom 0 (both s) entries
  writes : WriteFrom 0 (both s) entries
  stands : (replay_from 0 (both s) entries).now.disk (RegionSet (codes "t") 1) ≡ Some made_file

making : (ttl : ℕ) → Making (begin ttl)
making ttl = record {
  allowed = (((refl, create_allowed ttl), inl (refl, (omega arith), λ e. absurd (cc))), (((refl, write_allowed ttl), inl (refl, (omega arith), λ e. absurd (cc))), (((refl, commit_allowed ttl), inl (refl, (omega arith), λ e. absurd (cc))), (((refl, refl), inl (refl, tt, λ e. absurd (cc))), tt))));
  writes = (record { file = tt; moved = tt; part = tt }, (record { file = record { lawful = set_lawful; text = refl }; moved = tt; part = tt }, (record { file = tt; moved = tt; part = tt }, (record { file = tt; moved = tt; part = tt }, tt))));
  stands = refl;
}

have_names : HaveNames entries
have_names = (tt, (tt, (table_lawful, (tt, tt))))

pub table_made : (ttl : ℕ) → TableIsMade ttl
unfolding replay
table_made ttl =
    let all = subst Making (sym (opened_is ttl)) (making ttl) in
    let b = begins_valid (bare_opening 1 ttl) empty (bare_begins 1 ttl) in
    record {
      entries = entries;
      names = have_names;
      allowed = all.allowed;
      writes = all.writes;
      valid = (stays_valid (bare_opening 1 ttl) empty entries 4 (bare_begins 1 ttl) (omega arith) have_names all.allowed all.writes).0;
      file = made_file;
      stands = (journal_shown (bare_opening 1 ttl) empty entries 4 b.begins have_names all.allowed).now.at (RegionSet (codes "t") 1) ∙ all.stands;
    }
