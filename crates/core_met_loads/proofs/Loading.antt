-- The load of both files.
use Rattle.std.proofs.Common.{◌≡◌, ◌≤◌, ℕ, ◌+◌, ◌&&◌, Bool, true, false, cond, List, [], ◌∷◌, Option, Some, None, refl, sym, ap, subst, inl, inr, arith}
use Rattle.std.specs.Prelude.{codes, count_by, not, unwrap_or, is_some}
use Rattle.std.specs.Fmt.{digits}
use Rattle.std.specs.Ordering.{eq_by_cmp}
use Rattle.hex.specs.Hex.{encode_with}
use Rattle.cell_sight.proofs.Counts.{count-cons}
use Rattle.hb_cell.specs.declared.cell.Cell.{Cell}
use Rattle.hb_cell.specs.Order.{key_cmp, same_bytes}
use Rattle.hb_file_names.specs.FileName.{IsFileName}
use Rattle.hb_file_names.proofs.FileLemmas.{IsFileName-file_text}
use Rattle.hb_layout.specs.declared.base.Base.{Base}
use Rattle.ns_tree.specs.declared.file.FileState.{FileState}
use Rattle.plain_model.specs.declared.hold.Hold.TheVariants as holds
use Rattle.plain_model.specs.declared.job.Job.TheVariants as jobs
use Rattle.plain_model.specs.declared.parts.PlainTable.{PlainTable}
use Rattle.plain_model.specs.declared.reply.Reply.TheVariants.{Fine, TableNotFound, TableNotEnabled}
use Rattle.plain_model.specs.declared.who.Actor.{Actor}
use Rattle.plain_model.specs.Found.{is_enabled_in}
use Rattle.plain_model.specs.Replies.{first, when, no_files}
use Rattle.core_model.specs.declared.entry.Entry.TheVariants.{Own}
use Rattle.core_model.specs.declared.recipe.Recipe.TheVariants as recipes
use Rattle.core_model.specs.declared.region_files.RegionFiles.{RegionFiles}
use Rattle.core_model.specs.declared.targets.MoveFrom.TheVariants as moves
use Rattle.core_model.specs.declared.targets.Why.TheVariants as why
use Rattle.core_model.specs.declared.step.Started.TheVariants as started
use Rattle.core_model.specs.declared.step.Step.{Step}
use Rattle.core_model.specs.declared.step.Step.TheVariants as step
use Rattle.cell_sight.specs.Member.{Member}
use Rattle.core_model.specs.Actors.{InSet, HasHold}
use Rattle.core_model.specs.Allows.{Allows}
use Rattle.core_model.specs.Entries.{IsBase, region_list}
use Rattle.core_model.specs.FileGuards.{next_name}
use Rattle.core_model.specs.ListGuards.{FitsFamily, HasNoDouble}
use Rattle.core_model.specs.Replay.{after}
use Rattle.core_model.specs.Site.{Staged}
use Rattle.core_model.specs.StartGuards.{AreStaged}
use Rattle.core_model.specs.State.{Parts, no_plan}
use Rattle.core_sound.proofs.Tests.{cond_cases, both_left, both_right, same_bytes-true}
use Rattle.core_met.proofs.Begin.{info, key, key_is, who}
use Rattle.core_met.proofs.Lawful.{table_lawful, region_lawful, family_lawful}
use Rattle.core_met.proofs.Starts.{no_new_files}
use Rattle.core_met_loads.specs.Loaded.{cell_of, empty_file}
use Rattle.core_met_loads.proofs.Tabled.{tab, tables, table_is, in_set, b0}
use Rattle.core_met_loads.proofs.Waiting.{second_family}

abbrev pub loader : Actor
loader = record { 0 = 1 }

-- the files' names, with the numbers that are drawn for them
abbrev name2 : List ℕ
name2 = codes "00000000000000010000000000000002_SeqId_1_"

abbrev name3 : List ℕ
name3 = codes "00000000000000010000000000000003_SeqId_2_"

abbrev name4 : List ℕ
name4 = codes "00000000000000010000000000000004"

second_name : next_name 1 1 (Some 1) ≡ name2
unfolding encode_with digits
second_name = refl

third_name : next_name 1 2 (Some 2) ≡ name3
unfolding encode_with digits
third_name = refl

fourth_name : next_name 1 3 None ≡ name4
unfolding encode_with
fourth_name = refl

abbrev pub first_base : Base
first_base = record { table = codes "t"; region = key.region; family = codes "f"; name = name2 }

abbrev pub second_base : Base
second_base = record { table = codes "t"; region = key.region; family = codes "g"; name = name3 }

pub first_lawful : IsBase first_base
first_lawful = record { names = record { table = table_lawful; region = region_lawful; family = family_lawful }; file = subst IsFileName second_name (IsFileName-file_text (record { epoch = 1; counter = 2; seq = Some 1 }) (omega arith)) }

pub second_lawful : IsBase second_base
second_lawful = record { names = record { table = table_lawful; region = region_lawful; family = second_family }; file = subst IsFileName third_name (IsFileName-file_text (record { epoch = 1; counter = 3; seq = Some 2 }) (omega arith)) }

abbrev files : List (List ℕ × List ℕ)
files = (codes "f", codes "x") ∷ (codes "g", codes "x") ∷ []

abbrev both_cells : List Cell
both_cells = cell_of (codes "f") 1 ∷ cell_of (codes "g") 2 ∷ []

abbrev pub list : RegionFiles
list = record { number = 1; seq = 2; entries = Own first_base ∷ Own second_base ∷ [] }

abbrev pub load : Step
load = step.Start who (jobs.Bulk (codes "t") (codes "d")) (started.Live loader) (record { regions = []; moment = None; holds = holds.Load (codes "t") ∷ []; plan = no_plan; staged = files })

abbrev pub place_first : Step
place_first = step.Place loader (moves.StagedBulk (codes "d") (codes "x")) first_base (cell_of (codes "f") 0 ∷ [])

abbrev pub place_second : Step
place_second = step.Place loader (moves.StagedBulk (codes "d") (codes "x")) second_base (cell_of (codes "g") 0 ∷ [])

abbrev pub write_list : Step
write_list = step.WriteTmp loader (recipes.List key (region_list list)) name4 [] []

abbrev pub commit : Step
commit = step.CommitList loader key 0 name4 why.Bulk list both_cells []

abbrev pub loaded : Step
loaded = step.End loader None

abbrev pub b1 : ℕ → Parts
b1 ttl = after load (b0 ttl)

abbrev pub b2 : ℕ → Parts
b2 ttl = after place_first (b1 ttl)

abbrev pub b3 : ℕ → Parts
b3 ttl = after place_second (b2 ttl)

abbrev pub b4 : ℕ → Parts
b4 ttl = after write_list (b3 ttl)

abbrev pub b5 : ℕ → Parts
b5 ttl = after commit (b4 ttl)

abbrev pub b6 : ℕ → Parts
b6 ttl = after loaded (b5 ttl)

-- ---- each step is allowed

abbrev Named : Type 0
Named = List ℕ × List ℕ

-- two files of the folder whose families and names are the same
stands_as : (x y : Named) → (same_bytes x.0 y.0 && same_bytes x.1 y.1) ≡ true → y ≡ x
stands_as x y e = λ i. (sym (same_bytes-true x.0 y.0 (both_left (same_bytes x.0 y.0) _ e)) i, sym (same_bytes-true x.1 y.1 (both_right (same_bytes x.0 y.0) _ e)) i)

listed : (ttl : ℕ) (family name : List ℕ) (f : FileState) → (b0 ttl).disk (Staged (codes "d") family name) ≡ Some f → Member (family, name) files
listed ttl family name f e = cond_cases (same_bytes family (codes "g") && same_bytes name (codes "x")) (Some empty_file) (cond (same_bytes family (codes "f") && same_bytes name (codes "x")) (Some empty_file) None) (Some f) e
    (λ d i. inr (inl (stands_as (family, name) (codes "g", codes "x") d)))
    (λ d i. cond_cases (same_bytes family (codes "f") && same_bytes name (codes "x")) (Some empty_file) None (Some f) i
    (λ d i. inl (stands_as (family, name) (codes "f", codes "x") d))
    (λ d i. absurd (cc)))

waits : (ttl : ℕ) (x : List ℕ × List ℕ) → Member x files → (f : FileState) × ((b0 ttl).disk (Staged (codes "d") x.0 x.1) ≡ Some f)
waits ttl x (inl e) = (empty_file, ap (λ (y : List ℕ × List ℕ). (b0 ttl).disk (Staged (codes "d") y.0 y.1)) (sym e))
waits ttl x (inr (inl e)) = (empty_file, ap (λ (y : List ℕ × List ℕ). (b0 ttl).disk (Staged (codes "d") y.0 y.1)) (sym e))
waits ttl x (inr (inr z)) = absurd z

are_staged : (ttl : ℕ) → AreStaged (jobs.Bulk (codes "t") (codes "d")) (b0 ttl).disk files
are_staged ttl = ((refl, tt), λ family name. (λ m. waits ttl (family, name) m, λ i. listed ttl family name i.0 i.1))

pub load_allowed : (ttl : ℕ) → Allows load (b0 ttl)
load_allowed ttl = record {
  activity = tt;
  limits = tt;
  unreferenced = [];
  are_unreferenced = tt;
  holds = refl;
  free = refl;
  files = no_files;
  are_files = no_new_files (jobs.Bulk (codes "t") (codes "d")) (b0 ttl) refl;
  answered = (
    ap (λ (o : Option PlainTable). unwrap_or (first (when (not (is_some o)) TableNotFound ∷ when (not (is_enabled_in o)) TableNotEnabled ∷ [])) Fine) table_is,
    record { number = refl; regions = refl; moment = refl; plan = refl; staged = are_staged ttl },
  );
}

held : (ttl : ℕ) → HasHold (b1 ttl).plain.live 1 (holds.Load (codes "t"))
held ttl = record { activity = record { actor = loader; job = jobs.Bulk (codes "t") (codes "d"); holds = holds.Load (codes "t") ∷ [] }; at_work = refl; held = inl refl }

pub place_first_allowed : (ttl : ℕ) → Allows place_first (b1 ttl)
place_first_allowed ttl = record {
  live = refl;
  region = in_set;
  names = first_lawful;
  moved = record { file = empty_file; stands = refl; same = refl; named = sym second_name; load = held ttl };
  number = (omega arith);
}

pub place_second_allowed : (ttl : ℕ) → Allows place_second (b2 ttl)
place_second_allowed ttl = record {
  live = refl;
  region = in_set;
  names = second_lawful;
  moved = record { file = empty_file; stands = refl; same = refl; named = sym third_name; load = held ttl };
  number = (omega arith);
}

pub write_list_allowed : (ttl : ℕ) → Allows write_list (b3 ttl)
write_list_allowed ttl = record { live = refl; new = sym fourth_name; gives = refl }

abbrev is_open : InSet tables key false
is_open = record { table = tab; stands = table_is; info = info; listed = inl refl; key = key_is }

first_fits : (ttl : ℕ) → FitsFamily (b4 ttl).made first_base
first_fits ttl c (inl e) = ap (λ (x : Cell). x.family) (sym e)
first_fits ttl c (inr z) = absurd z

second_fits : (ttl : ℕ) → FitsFamily (b4 ttl).made second_base
second_fits ttl c (inl e) = ap (λ (x : Cell). x.family) (sym e)
second_fits ttl c (inr z) = absurd z

alone : (p : Cell → Bool) (x : Cell) → count_by p (x ∷ []) ≤ 1
alone p x = elim (p x) as (λ b. count_by p (x ∷ []) ≡ cond b 1 0 + count_by p [] → count_by p (x ∷ []) ≤ 1) [ true ↦ λ e. omega (arith, e) | false ↦ λ e. omega (arith, e) ] (count-cons p x [])

first_once : (ttl : ℕ) → HasNoDouble (b4 ttl).made first_base
first_once ttl c = alone (eq_by_cmp key_cmp c) (cell_of (codes "f") 1)

second_once : (ttl : ℕ) → HasNoDouble (b4 ttl).made second_base
second_once ttl c = alone (eq_by_cmp key_cmp c) (cell_of (codes "g") 2)

pub commit_allowed : (ttl : ℕ) → Allows commit (b4 ttl)
commit_allowed ttl = record {
  next = record {
    wrote = record { file = empty_file; stands = refl; cells = []; known = refl };
    replaces = refl;
    number = refl;
    unspent = (omega arith);
  };
  allowed = record {
    folder = codes "d";
    job = refl;
    held = held ttl;
    is_open = is_open;
    added = first_base ∷ second_base ∷ [];
    files = (
      (record { region = sym key_is; family = refl; source = moves.StagedBulk (codes "d") (codes "x"); placed = inl refl; comes = (refl, refl) }, refl),
      ((record { region = sym key_is; family = refl; source = moves.StagedBulk (codes "d") (codes "x"); placed = inr (inl refl); comes = (refl, refl) }, refl), tt),
    );
    some = λ e. absurd (cc);
    known = ((1, inl refl), ((1, inr (inl refl)), tt));
    fits = (first_fits ttl, (second_fits ttl, tt));
    once = (first_once ttl, (second_once ttl, tt));
    entries = refl;
    joins = refl;
    seq = refl;
    unplanned = refl;
  };
}
