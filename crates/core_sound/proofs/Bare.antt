-- A store without files begins sound.
use Rattle.std.proofs.Common.{◌≡◌, ℕ, true, false, cond, List, [], Some, None, refl, sym, ap, ◌∙◌, inl, inr}
use Rattle.std.specs.Prelude.{is_some}
use Rattle.std.specs.FinMap.{empty, get, get-empty}
use Rattle.std.specs.Cmp.Lexicographic.{slice_cmp}
use Rattle.std.specs.Ordering.{nat_cmp}
use Rattle.hb_cell.specs.Order.{bytes_cmp}
use Rattle.hb_layout.specs.declared.base.Base.{Base}
use Rattle.ns_tree.specs.declared.file.FileState.{FileState}
use Rattle.ns_tree.specs.Tree.{Tree}
use Rattle.plain_model.specs.declared.region_key.RegionKey.{RegionKey}
use Rattle.core_model.specs.Actors.{IsRegion, Counts}
use Rattle.core_model.specs.Disk.{disk_of, is_regular, live_of}
use Rattle.core_model.specs.Entries.{no_list, file_of}
use Rattle.core_model.specs.Named.{Named, listed, in_snapshot, captured, planned, pinned, linked}
use Rattle.core_model.specs.Opened.{opened}
use Rattle.core_model.specs.Site.{Site, Tmp, Live, Archived, site_text}
use Rattle.core_model.specs.Sound.{IsSound}
use Rattle.core_model.specs.State.{no_plan}
use Rattle.core_sound.specs.Laws.{bare_opening}

abbrev bare : Tree
bare = empty

nothing : (q : Site) → disk_of bare q ≡ None
nothing q = elim (is_regular q) as (λ b. cond b (get bare (site_text q)) None ≡ None) [ true ↦ get-empty (slice_cmp nat_cmp) (site_text q) | false ↦ refl ]

absent : {P : Type 0} (q : Site) (f : FileState) → disk_of bare q ≡ Some f → P
absent q f e = let z : None ≡ Some f = sym (nothing q) ∙ e in absurd (cc)

no_key : {X P : Type 0} (name : List ℕ) (x : X) → get (empty {R = bytes_cmp}) name ≡ Some x → P
no_key {X} name x e = let z : None ≡ Some x = sym (get-empty bytes_cmp name) ∙ e in absurd (cc)

no_region : {P : Type 0} (r : RegionKey) → IsRegion empty r → P
no_region r (inl i) = no_key r.table i.table i.stands
no_region r (inr i) = no_key r.table i.table i.stands

none_counts : {P : Type 0} (r : RegionKey) → Counts empty (λ a. no_plan) r → P
none_counts r (inl i) = no_region r i
none_counts r (inr i) = absurd (i.region)

unnamed : {P : Type 0} (b : Base) → Named empty (λ r. no_list) empty (λ a r. None) (λ a. no_plan) (λ a. []) (live_of (disk_of bare)) b → P
unnamed b (listed r e i m k) = absurd m
unnamed b (in_snapshot name x e i m k) = no_key name x i
unnamed b (captured a r l e i m k) = let z : None ≡ Some l = i in absurd (cc)
unnamed b (planned a x m k) = absurd m
unnamed b (pinned a e i k) = absurd i.stands
unnamed b (linked r e f y v o i k) = absent (Live (file_of r e)) f i

no_hold : {P : Type 0} {A : Type 0} {l : A} → None ≡ Some l → P
no_hold e = absurd (cc)

pub bare_sound : (epoch ttl : ℕ) → IsSound (opened (bare_opening epoch ttl))
bare_sound epoch ttl = record {
  names = record { tmp = λ name f e. absent (Tmp name) f e; live_file = λ b f e o. absent (Live b) f e; archived_file = λ b f e. absent (Archived b) f e; known = λ b cells e o. absurd (cc); recipe = λ name w e. absurd (cc) };
  known_tmps = record { at = λ name w e. absurd (cc) };
  tmps_apart = record { from_live = λ name f e. absent (Tmp name) f e; from_archived = λ name f e. absent (Tmp name) f e };
  one_place = record { at = λ b f g e i. absent (Live b) f e };
  archived_lawful = record { at = λ b f e. absent (Archived b) f e };
  places = record { at = λ b i. unnamed b i };
  lawful = record { at = λ b i. unnamed b i };
  back_refs = record { at = λ r e f y v o i. absent (Live (file_of r e)) f i };
  listed = record { at = λ r e i m. none_counts r i };
  pinned = record { at = λ a p e m i. absurd m };
  waiting = record { at = λ b a e. absurd (cc) };
  own_regions = record { at = λ t table i split e m. no_key t table e };
  alike = record { at = λ name. ap is_some (get-empty bytes_cmp name) ∙ sym (ap is_some (get-empty bytes_cmp name)) };
  numbered = record { below = λ l m. absurd m; differ = λ l k m. absurd m };
  apart = record { at = λ l m h k i. absurd i };
  fits = record { at = λ l h i. absurd i };
  uses = record { at = λ l name m. absurd m };
  jobs = record { at = λ l i. absurd i };
  held = record { used = λ a name h. no_hold h.at_work; taken = λ a name t h. no_hold h.at_work; done = λ a name t h. no_hold h.at_work };
  taken = record { at = λ a name t h. no_hold h.at_work };
  once = record { by_live = λ a i m. absurd m; was_drawn = λ a i m. absurd m; is_new = λ a i m. absurd m; alone = λ a b i j m. absurd m; entries = λ a x m. absurd m };
  built = record { at = λ a i e m. absurd m };
  sources = record { at = λ a x m. absurd m };
  captures = record { at = λ a r l e. absurd (cc) };
  owners = record { pinning = λ a p m. absurd m };
  pass_held = record { at = λ p e. absurd (cc) };
  pass = record { captured = λ p a r l e i. absurd (cc); completed = λ p name x e i. absurd (cc) };
}
