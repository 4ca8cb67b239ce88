-- What an opening found is what a journal begins with.
use Rattle.std.proofs.Common.{◌≡◌, ℕ, Bool, true, false, cond, List, [], ◌∷◌, map, Option, Some, None, refl, sym, ap, subst, ◌∙◌, inl, inr}
use Rattle.std.specs.Prelude.{◌↔◌, is_some}
use Rattle.std.specs.List.{AllByRecursion}
use Rattle.std.specs.FinMap.{contains_key, empty, find, from_entries, get, get-empty, get-from_entries}
use Rattle.std.specs.Cmp.{Equal-is, tied_itself}
use Rattle.std.specs.Ordering.{eq_by_cmp, is_eq}
use Rattle.std.proofs.lemmas.Bool.{true≢false}
use Rattle.cell_sight.specs.Member.{Member}
use Rattle.hb_cell.specs.Order.{bytes_cmp}
use Rattle.ns_tree.specs.declared.file.FileState.{FileState}
use Rattle.reserved_map.specs.Keys.{bytes_cmp-exact, region_cmp}
use Rattle.core_model.specs.declared.found.Found.{Found}
use Rattle.core_model.specs.declared.opening.Opening.{Opening}
use Rattle.core_model.specs.Disk.{Disk, disk_of}
use Rattle.core_model.specs.Replay.{begun}
use Rattle.core_model.specs.State.{no_plan}
use Rattle.core_model.specs.Site.{Tmp, site_text}
use Rattle.core_sites.proofs.Shown.{shown}
use Rattle.core_places.specs.Places.{ArePlaces}
use Rattle.world_state.specs.Opened.{HasFound, places_in, tree_of}
use Rattle.world_state.specs.Parts.{AreDrawn, AreRecorded, IsFound, IsReplay, recorded}
use Rattle.world_state.specs.declared.counts.Counts.{Counts}
use Rattle.world_state.specs.declared.state.CoreState.{CoreState}
use Rattle.world_state.specs.Works.{IsWork, live_in}
use Rattle.world_state.proofs.Files.{both_ways, total}

abbrev in_pairs : {X : Type 0} → X → List (List ℕ) → List (List ℕ × X)
in_pairs x ps = map (λ (p : List ℕ). (p, x)) ps

module _ {X : Type 0} (x : X) where
  pair_found : (q : List ℕ) (ps : List (List ℕ)) → is_some (find bytes_cmp q (in_pairs x ps)) ≡ true → Member q ps
  pair_found q [] h = absurd (cc)
  pair_found q (p ∷ ps) h = by (eq_by_cmp bytes_cmp q p) refl h (pair_found q ps)
    where
      by : (b : Bool) → eq_by_cmp bytes_cmp q p ≡ b → is_some (cond b (Some x) (find bytes_cmp q (in_pairs x ps))) ≡ true → (is_some (find bytes_cmp q (in_pairs x ps)) ≡ true → Member q ps) → Member q (p ∷ ps)
      by true e i k = inl (sym (bytes_cmp-exact q p ((Equal-is (bytes_cmp q p)).0 e)))
      by false e i k = inr (k i)

  or_else : (b : Bool) (o : Option X) → is_some o ≡ true → is_some (cond b (Some x) o) ≡ true
  or_else true o h = refl
  or_else false o h = h

  found_pair : (q : List ℕ) (ps : List (List ℕ)) → Member q ps → is_some (find bytes_cmp q (in_pairs x ps)) ≡ true
  found_pair q [] m = absurd m
  found_pair q (p ∷ ps) (inl e) = ap (λ b. is_some (cond b (Some x) (find bytes_cmp q (in_pairs x ps)))) (ap (eq_by_cmp bytes_cmp q) e ∙ ap is_eq (tied_itself total q))
  found_pair q (p ∷ ps) (inr m) = or_else (eq_by_cmp bytes_cmp q p) (find bytes_cmp q (in_pairs x ps)) (found_pair q ps m)

  -- the keys of a map with one value at all of some keys are these
  pub placed : (q : List ℕ) (ps : List (List ℕ)) → (contains_key {R = bytes_cmp} (from_entries (in_pairs x ps)) q ≡ true) ↔ Member q ps
  placed q ps = (λ e. pair_found q ps (sym (ap is_some (get-from_entries total (in_pairs x ps) q)) ∙ e), λ m. ap is_some (get-from_entries total (in_pairs x ps) q) ∙ found_pair q ps m)

pub found_places : (o : Opening) (f : Found) → HasFound o f → ArePlaces (places_in f.places) (disk_of (tree_of o))
found_places o f h = record {
  sites = λ place e. h.sites place ((placed tt place f.places).0 e);
  at = λ q r. both_ways _ _
      (λ e. ap is_some (shown (tree_of o) q r) ∙ (h.places (site_text q)).1 ((placed tt (site_text q) f.places).0 e))
      (λ e. (placed tt (site_text q) f.places).1 ((h.places (site_text q)).0 (sym (ap is_some (shown (tree_of o) q r)) ∙ e)));
  regular = λ q r. ap (λ b. cond b (get (tree_of o) (site_text q)) None) r;
}

pub none_drawn : AreDrawn empty []
none_drawn r = (λ e. absurd (true≢false (sym e ∙ ap is_some (get-empty region_cmp r))), λ m. absurd m)

none_recorded : (o : Option FileState) → None ≡ recorded o None
none_recorded None = refl
none_recorded (Some f) = refl

pub no_files : (d : Disk) → AreRecorded empty d (λ n. None)
no_files d name = get-empty bytes_cmp name ∙ none_recorded (d (Tmp name))

-- the state that an opening leaves is what a journal begins with
pub found_replay : (o : Opening) (f : Found) (a : CoreState) → HasFound o f → IsFound f a → IsReplay a (begun o)
found_replay o f a h i = record {
  files = ap (λ (c : Counts). c.files) i.counts;
  ids = ap (λ (c : Counts). c.ids) i.counts;
  begun = ap (λ (c : Counts). c.begun) i.counts;
  drawn = subst (λ m. AreDrawn m []) (sym i.drawn) none_drawn;
  places = subst (λ m. ArePlaces m (disk_of (tree_of o))) (sym i.places) (found_places o f h);
  written = subst (λ m. AreRecorded m (disk_of (tree_of o)) (λ n. None)) (sym i.written) (no_files (disk_of (tree_of o)));
  sets = i.sets ∙ ap (λ (x : Found). from_entries x.sets) (sym h.same);
  snapshots = i.snapshots ∙ ap (λ (x : Found). from_entries x.snapshots) (sym h.same);
  live = ap (map live_in) i.works;
  works = subst (AllByRecursion (IsWork 0 (λ a. None) (λ a. no_plan))) (sym i.works) tt;
  closed = i.closed;
}
