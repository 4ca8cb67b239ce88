-- The cells of an entry are of its family, where those of its base are.
use Rattle.std.proofs.Common.{◌≡◌, ℕ, Bool, true, false, cond, List, [], ◌∷◌, Option, Some, None, refl, sym, ap, ◌∙◌, inl, inr}
use Rattle.std.specs.Prelude.{filter, unwrap_or}
use Rattle.hb_cell.specs.declared.cell.Cell.{Cell}
use Rattle.plain_model.specs.declared.region_key.RegionKey.{RegionKey}
use Rattle.plain_model.specs.Keys.{same_key}
use Rattle.cell_sight.specs.Member.{Member}
use Rattle.core_model.specs.declared.entry.Entry.{Entry}
use Rattle.core_model.specs.declared.entry.Entry.TheVariants as entries
use Rattle.core_model.specs.declared.region_files.RegionFiles.{RegionFiles}
use Rattle.core_model.specs.Actors.{last_pin}
use Rattle.core_model.specs.Entries.{Made, base_of, in_side, seq_of, with_seq, serves}
use Rattle.core_model.specs.ListGuards.{Compacts, FitsFamily}
use Rattle.core_model.specs.Plans.{half_of, copy_of}
use Rattle.core_model.specs.State.{Parts, Pinned}
use Rattle.cell_sight.proofs.Members.{of_filter}
use Rattle.core_sound.proofs.HoldsFound.{some_is}
use Rattle.core_sound.proofs.Sources.{map-member}
use Rattle.core_sound.proofs.Tests.{cond_cases}
use Rattle.core_contents.specs.ContentFacts.{FitsEntry}
use Rattle.core_contents.specs.Faithful.{IsFaithful}
use Rattle.core_contents.proofs.Majored.{EntriesFit}
use Rattle.core_contents.proofs.PlannedEach.{GoesOver}

with_family : (o : Option ℕ) (c : Cell) → (with_seq o c).family ≡ c.family
with_family None c = refl
with_family (Some n) c = refl

-- the cells of each entry of a base are among the base's
pub entry_fits : (made : Made) (e : Entry) → FitsFamily made (base_of e) → FitsEntry made e
entry_fits made e f c m =
    let w = map-member (with_seq (seq_of (base_of e).name)) c (unwrap_or (made (base_of e)) []) (of_filter (serves e) c _ m).0 in
    ap (λ (x : Cell). x.family) (sym w.2) ∙ with_family (seq_of (base_of e).name) w.0 ∙ f w.0 w.1

-- copies have the cells of what they copy, and halves no others
copy_fits : (made : Made) (e : Entry) → FitsEntry made e → FitsEntry made (copy_of e)
copy_fits made (entries.Own b) f = f
copy_fits made (entries.Link b) f = f
copy_fits made (entries.Half b l p r t) f = f

served : (q : Cell → Bool) (cs : List Cell) (c : Cell) → Member c (filter q cs) → Member c (filter (λ x. true) cs)
served q [] c m = m
served q (x ∷ xs) c m = (elim (q x) as (λ b. Member c (cond b (x ∷ filter q xs) (filter q xs)) → Member c (x ∷ filter (λ y. true) xs)) [
  | true ↦ λ k. elim k [ inl i ↦ inl i | inr i ↦ inr (served q xs c i) ]
  | false ↦ λ k. inr (served q xs c k)
]) m

half_fits : (made : Made) (parent row : List ℕ) (top : Bool) (e : Entry) → FitsEntry made e → FitsEntry made (half_of parent row top e)
half_fits made parent row top (entries.Own b) f c m = f c (served (in_side row top) _ c m)
half_fits made parent row top (entries.Link b) f c m = f c (served (in_side row top) _ c m)
half_fits made parent row top (entries.Half b l p r t) f c m = f c m

pub fits_over : (made : Made) → GoesOver (FitsEntry made)
fits_over made = record { copies = copy_fits made; halves = half_fits made }

-- the last pin of a region is one of the actor's
pub pinned_of : (ps : List Pinned) (r : RegionKey) (pin : Pinned) → last_pin ps r ≡ Some pin → Member pin ps
pinned_of [] r pin e = absurd (cc)
pinned_of (q ∷ qs) r pin e = cond_cases (same_key q.region r) (Some q) (last_pin qs r) (Some pin) e (λ d i. inl (some_is i)) (λ d i. inr (pinned_of qs r pin i))

pub pinned_families : (a : ℕ) (r : RegionKey) (l : RegionFiles) (cells : List Cell) (more : List (List ℕ × Entry)) (s : Parts) → (g : Compacts a r true l cells more s) → IsFaithful s → EntriesFit s.made g.pinned.entries
pinned_families a r l cells more s g f = λ e m c k. f.families.pinned a g.pinned e (pinned_of (s.pins a) r g.pinned g.pin) m c k
