-- The state of a store that has the two waiting files alone, and that it is sound.
use Rattle.std.proofs.Common.{◌≡◌, ℕ, true, false, cond, List, [], ◌∷◌, Some, None, refl, sym, ap, ◌∙◌, subst, inl, inr, arith}
use Rattle.std.specs.Prelude.{codes, is_some}
use Rattle.std.specs.FinMap.{empty, get, insert, get-empty}
use Rattle.std.specs.Cmp.Lexicographic.{slice_cmp}
use Rattle.std.specs.Ordering.{nat_cmp}
use Rattle.std.proofs.lemmas.Bool.{true≢false}
use Rattle.hb_cell.specs.declared.cell.Cell.{Cell}
use Rattle.hb_cell.specs.Order.{bytes_cmp}
use Rattle.hb_grammar.specs.Class.{has}
use Rattle.hb_layout.specs.declared.base.Base.{Base}
use Rattle.hb_layout.specs.Spot as layout
use Rattle.hb_names.specs.Component.{IsComponent}
use Rattle.hb_names.specs.FamilyName.{IsFamilyName}
use Rattle.ns_tree.specs.declared.file.FileState.{FileState}
use Rattle.ns_tree.specs.Tree.{Tree}
use Rattle.ns_tree.proofs.Trees.{IsTree-empty}
use Rattle.plain_model.specs.declared.region_key.RegionKey.{RegionKey}
use Rattle.core_model.specs.Actors.{IsRegion, Counts}
use Rattle.core_model.specs.Disk.{Disk, Create, disk_of, disk_after, is_regular, live_of, archived_of, at_place, or_else}
use Rattle.core_model.specs.Entries.{no_list}
use Rattle.core_model.specs.FileChanges.{size_in}
use Rattle.core_model.specs.Named.{Named, listed, in_snapshot, captured, planned, pinned, linked}
use Rattle.core_model.specs.Opened.{opened, found_cells, read_base}
use Rattle.core_model.specs.Site.{Site, Live, Archived, Staged, site_text, pointer_at, is_store_name}
use Rattle.core_model.specs.Sound.{IsSound}
use Rattle.core_model.specs.State.{Parts, no_plan}
use Rattle.core_sites.specs.Shows.{Shows}
use Rattle.core_sites.proofs.Accepted.{accepted}
use Rattle.core_sites.proofs.Shown.{shows_by}
use Rattle.core_met.proofs.Begin.{begin}
use Rattle.core_met.proofs.Lawful.{family_lawful}
use Rattle.core_met_loads.specs.Loaded.{cell_of, waits_at, empty_file, waiting_tree, waiting_opening}

-- ---- what stands where

abbrev bare : Tree
bare = empty

nothing : (q : Site) → disk_of bare q ≡ None
nothing q = elim (is_regular q) as (λ b. cond b (get bare (site_text q)) None ≡ None) [ true ↦ get-empty (slice_cmp nat_cmp) (site_text q) | false ↦ refl ]

none_shown : Shows bare (λ p. None)
none_shown = record { files = IsTree-empty; sites = λ place stands. absurd (true≢false (sym stands ∙ ap is_some (get-empty {X = FileState} (slice_cmp nat_cmp) place))); at = nothing }

folder_lawful : IsComponent (codes "d")
unfolding has
folder_lawful = record { least = (omega arith); most = (omega arith); each = (refl, tt); not_dot = λ e. absurd (cc); not_two_dots = λ e. absurd (cc) }

file_lawful : IsComponent (codes "x")
unfolding has
file_lawful = record { least = (omega arith); most = (omega arith); each = (refl, tt); not_dot = λ e. absurd (cc); not_two_dots = λ e. absurd (cc) }

pub second_family : IsFamilyName (codes "g")
unfolding has
second_family = record { front = codes "g"; back = []; whole = refl; in_first = record { long = refl; each = (refl, tt) }; in_second = record { least = (omega arith); most = (omega arith); each = tt } }

abbrev first_disk : Disk
first_disk = disk_after (Create (waits_at (codes "f")) []) (λ p. None)

abbrev pub waiting_disk : Disk
waiting_disk = disk_after (Create (waits_at (codes "g")) []) first_disk

abbrev first_tree : Tree
first_tree = insert empty (site_text (waits_at (codes "f"))) empty_file

first_shown : Shows first_tree first_disk
first_shown = shows_by (Create (waits_at (codes "f")) []) empty (λ p. None) (accepted (Create (waits_at (codes "f")) []) empty (λ p. None) (record { spelled = (folder_lawful, family_lawful, file_lawful); works = tt; new = refl }) none_shown) (folder_lawful, family_lawful, file_lawful) tt none_shown

pub waiting_shown : Shows waiting_tree waiting_disk
waiting_shown = shows_by (Create (waits_at (codes "g")) []) first_tree first_disk (accepted (Create (waits_at (codes "g")) []) first_tree first_disk (record { spelled = (folder_lawful, second_family, file_lawful); works = tt; new = refl }) first_shown) (folder_lawful, second_family, file_lawful) tt first_shown

-- ---- the state

abbrev Cells : Type 0
Cells = List (List ℕ × List Cell)

abbrev found : Cells
found = (site_text (waits_at (codes "f")), cell_of (codes "f") 0 ∷ []) ∷ (site_text (waits_at (codes "g")), cell_of (codes "g") 0 ∷ []) ∷ []

abbrev pub waiting : ℕ → Parts
waiting ttl = record (begin ttl) { disk = waiting_disk; opened = waiting_disk; staged = λ folder family name. found_cells found (site_text (Staged folder family name)) }

-- no cells were found of a live or an archived file
none_live : (b : Base) → found_cells found (site_text (Live b)) ≡ None
none_live b = elim (is_store_name b.name) as (λ c. found_cells found (layout.place_text (cond c (layout.Live b) (layout.Pointing (pointer_at b)))) ≡ None) [ true ↦ refl | false ↦ refl ]

none_made : (b : Base) → read_base found b ≡ None
none_made b = ap (λ o. or_else o (found_cells found (site_text (Archived b)))) (none_live b)

pub waiting_is : (ttl : ℕ) → opened (waiting_opening ttl) ≡ waiting ttl
waiting_is ttl = λ i. record (waiting ttl) {
  disk = λ p. waiting_shown.at p i;
  opened = λ p. waiting_shown.at p i;
  made = λ b. none_made b i;
  sizes = λ b. size_in (at_place (live_of (λ p. waiting_shown.at p i)) (archived_of (λ p. waiting_shown.at p i)) b);
}

-- ---- it is sound

no_key : {X P : Type 0} (name : List ℕ) (x : X) → get (empty {R = bytes_cmp}) name ≡ Some x → P
no_key {X} name x e = let z : None ≡ Some x = sym (get-empty bytes_cmp name) ∙ e in absurd (cc)

no_region : {P : Type 0} (r : RegionKey) → IsRegion empty r → P
no_region r (inl i) = no_key r.table i.table i.stands
no_region r (inr i) = no_key r.table i.table i.stands

none_counts : {P : Type 0} (r : RegionKey) → Counts empty (λ a. no_plan) r → P
none_counts r (inl i) = no_region r i
none_counts r (inr i) = absurd (i.region)

unnamed : {P : Type 0} (b : Base) → Named empty (λ r. no_list) empty (λ a r. None) (λ a. no_plan) (λ a. []) (live_of waiting_disk) b → P
unnamed b (listed r e i m k) = absurd m
unnamed b (in_snapshot name x e i m k) = no_key name x i
unnamed b (captured a r l e i m k) = let z : None ≡ Some l = i in absurd (cc)
unnamed b (planned a x m k) = absurd m
unnamed b (pinned a e i k) = absurd i.stands
unnamed b (linked r e f y v o i k) = absurd (cc)

no_hold : {P : Type 0} {A : Type 0} {l : A} → None ≡ Some l → P
no_hold e = absurd (cc)

waiting_sound : (ttl : ℕ) → IsSound (waiting ttl)
waiting_sound ttl = record {
  names = record { tmp = λ name f e. absurd (cc); live_file = λ b f e o. absurd (cc); archived_file = λ b f e. absurd (cc); known = λ b cells e o. absurd (cc); recipe = λ name w e. absurd (cc) };
  known_tmps = record { at = λ name w e. absurd (cc) };
  tmps_apart = record { from_live = λ name f e. absurd (cc); from_archived = λ name f e. absurd (cc) };
  one_place = record { at = λ b f g e i. absurd (cc) };
  archived_lawful = record { at = λ b f e. absurd (cc) };
  places = record { at = λ b i. unnamed b i };
  lawful = record { at = λ b i. unnamed b i };
  back_refs = record { at = λ r e f y v o i. absurd (cc) };
  listed = record { at = λ r e i m. none_counts r i };
  pinned = record { at = λ a p e m i. absurd m };
  waiting = record { at = λ b a e. absurd (cc) };
  own_regions = record { at = λ t table i split e m. no_key t table e };
  alike = record { at = λ name. ap is_some (get-empty bytes_cmp name) ∙ sym (ap is_some (get-empty bytes_cmp name)) };
  numbered = record { below = λ l m. absurd m; differ = λ l k m. absurd m };
  apart = record { at = λ l m h k i. absurd i };
  fits = record { at = λ l h i. absurd i };
  uses = record { at = λ l name m. absurd m };
  jobs = record { at = λ l i. absurd i };
  held = record { used = λ a name h. no_hold h.at_work; taken = λ a name t h. no_hold h.at_work; done = λ a name t h. no_hold h.at_work };
  taken = record { at = λ a name t h. no_hold h.at_work };
  once = record { by_live = λ a i m. absurd m; was_drawn = λ a i m. absurd m; is_new = λ a i m. absurd m; alone = λ a b i j m. absurd m; entries = λ a x m. absurd m };
  built = record { at = λ a i e m. absurd m };
  sources = record { at = λ a x m. absurd m };
  captures = record { at = λ a r l e. absurd (cc) };
  owners = record { pinning = λ a p m. absurd m };
  pass_held = record { at = λ p e. absurd (cc) };
  pass = record { captured = λ p a r l e i. absurd (cc); completed = λ p name x e i. absurd (cc) };
}

pub begins_sound : (ttl : ℕ) → IsSound (opened (waiting_opening ttl))
begins_sound ttl = subst IsSound (sym (waiting_is ttl)) (waiting_sound ttl)
