-- What becomes of the files of bases by a step, one by one; names in the archive stay in their grammars.
use Rattle.std.proofs.Common.{◌≡◌, ℕ, true, false, List, [], Option, Some, None, refl, sym, ap, ◌∙◌, subst}
use Rattle.std.specs.Prelude.{option_map}
use Rattle.hb_layout.specs.declared.base.Base.{Base}
use Rattle.core_model.specs.Site.{Tmp, Staged}
use Rattle.ns_tree.specs.declared.file.FileState.{FileState}
use Rattle.ns_tree.specs.Step.{with_moment}
use Rattle.plain_model.specs.declared.region_key.RegionKey.{RegionKey}
use Rattle.core_model.specs.declared.entry.Entry.{Entry}
use Rattle.core_model.specs.declared.entry.Entry.TheVariants as entries
use Rattle.core_model.specs.declared.recipe.Recipe.{Recipe}
use Rattle.core_model.specs.declared.targets.ManifestPart.TheVariants as parts
use Rattle.core_model.specs.declared.targets.MoveFrom.TheVariants as moves
use Rattle.core_model.specs.declared.targets.OldFile.TheVariants as old
use Rattle.core_model.specs.declared.step.Step.{Step}
use Rattle.core_model.specs.declared.step.Step.TheVariants as step
use Rattle.core_model.specs.Allows.{Allows}
use Rattle.core_model.specs.Disk.{disk_after, live_of, archived_of}
use Rattle.core_model.specs.Entries.{file_of, is_own, stem, IsBase}
use Rattle.core_model.specs.Site.{is_store_name}
use Rattle.core_model.specs.FileGuards.{Wrote}
use Rattle.core_model.specs.Keys.{same_base}
use Rattle.core_sound.proofs.NameFacts.{store_name}
use Rattle.core_model.specs.Ops.{op_of}
use Rattle.core_model.specs.Sound.{IsSound}
use Rattle.core_model.specs.State.{Parts}
use Rattle.core_model.specs.TmpFacts.{ArchivedAreLawful}
use Rattle.core_sound.proofs.Draws.{stem_drawn}
use Rattle.core_sound.proofs.Lists.{map_some}
use Rattle.core_sound.proofs.NeverAgain.{not_store, half_not_own}
use Rattle.core_sound.proofs.Tests.{cond_cases, same_base-true}

-- ---- store files by what becomes of them

-- a file that a step places
abbrev pub PlacedAt : Step → Parts → Base → FileState → Type 0
PlacedAt (step.Place actor (moves.Written name) base cells) s b f = (b ≡ base) × (s.disk (Tmp name) ≡ Some f)
PlacedAt (step.Place actor (moves.WrittenBulk name) base cells) s b f = (b ≡ base) × (s.disk (Tmp name) ≡ Some f)
PlacedAt (step.Place actor (moves.StagedBulk folder name) base cells) s b f = (b ≡ base) × (s.disk (Staged folder base.family name) ≡ Some f)
PlacedAt _ s b f = ⊥

-- what holds of each live store file, and of one that a step places, holds of each after the step
abbrev pub OfLive : (Base → List ℕ → Type 0) → (Base → Option FileState) → Type 0
OfLive P live = (b : Base) (f : FileState) → live b ≡ Some f → is_store_name b.name ≡ true → P b f.bytes

abbrev pub OfArchived : (Base → List ℕ → Type 0) → (Base → Option FileState) → Type 0
OfArchived P archived = (b : Base) (f : FileState) → archived b ≡ Some f → P b f.bytes

made_file : {X : Type 0} (b : Base) (r : RegionKey) (e : Entry) → is_own e ≡ false → b ≡ file_of r e → is_store_name b.name ≡ true → X
made_file b r e w d o = let z : true ≡ false = sym o ∙ ap (λ (x : Base). is_store_name x.name) d ∙ not_store e w in absurd (cc)

pub live_each : (P : Base → List ℕ → Type 0) (p : Step) (s : Parts) → Allows p s → OfLive P (live_of s.disk) → ((b : Base) (f : FileState) → PlacedAt p s b f → P b f.bytes) → OfLive P (live_of (disk_after (op_of p) s.disk))
live_each P (step.Place actor (moves.Written name) base cells) s a h k b f e o = cond_cases (same_base b base) (s.disk (Tmp name)) (live_of s.disk b) (Some f) e (λ d i. k b f (same_base-true b base d, i)) (λ d i. h b f i o)
live_each P (step.Place actor (moves.WrittenBulk name) base cells) s a h k b f e o = cond_cases (same_base b base) (s.disk (Tmp name)) (live_of s.disk b) (Some f) e (λ d i. k b f (same_base-true b base d, i)) (λ d i. h b f i o)
live_each P (step.Place actor (moves.StagedBulk folder name) base cells) s a h k b f e o = cond_cases (same_base b base) (s.disk (Staged folder base.family name)) (live_of s.disk b) (Some f) e (λ d i. k b f (same_base-true b base d, i)) (λ d i. h b f i o)
live_each P (step.Stamp actor base moment) s a h k b f e o = cond_cases (same_base b base) (option_map (with_moment moment) (live_of s.disk base)) (live_of s.disk b) (Some f) e
    (λ d i. let w = map_some (with_moment moment) (live_of s.disk base) f i in subst (λ (x : FileState). P b x.bytes) w.2 (h b w.0 (ap (live_of s.disk) (same_base-true b base d) ∙ w.1) o))
    (λ d i. h b f i o)
live_each P (step.Archive actor base) s a h k b f e o = cond_cases (same_base b base) None (live_of s.disk b) (Some f) e (λ d i. absurd (cc)) (λ d i. h b f i o)
live_each P (step.Unlink actor entry region) s a h k b f e o = cond_cases (same_base b (file_of region entry)) None (live_of s.disk b) (Some f) e (λ d i. absurd (cc)) (λ d i. h b f i o)
live_each P (step.Link actor base region) s a h k b f e o = cond_cases (same_base b (file_of region (entries.Link base))) (Some (record { bytes = []; moment = 0 })) (live_of s.disk b) (Some f) e
    (λ d i. made_file b region (entries.Link base) refl (same_base-true b (file_of region (entries.Link base)) d) o) (λ d i. h b f i o)
live_each P (step.Half actor entry region bytes) s a h k b f e o = cond_cases (same_base b (file_of region entry)) (Some (record { bytes = bytes; moment = 0 })) (live_of s.disk b) (Some f) e
    (λ d i. made_file b region entry (half_not_own entry a.half) (same_base-true b (file_of region entry) d) o) (λ d i. h b f i o)
live_each P (step.DropOld actor (old.Work snapshot parts.Info)) s a h k b f e o = h b f e o
live_each P (step.Manifest actor parts.Info snapshot moment bytes) s a h k b f e o = h b f e o
live_each P _ s a h k b f e o = h b f e o

pub archived_each : (P : Base → List ℕ → Type 0) (p : Step) (s : Parts) → Allows p s → OfArchived P (archived_of s.disk) → OfLive P (live_of s.disk) → OfArchived P (archived_of (disk_after (op_of p) s.disk))
archived_each P (step.Archive actor base) s a h k b f e = cond_cases (same_base b base) (live_of s.disk base) (archived_of s.disk b) (Some f) e
    (λ d i. let z = same_base-true b base d in k b f (ap (live_of s.disk) z ∙ i) (ap (λ (x : Base). is_store_name x.name) z ∙ store_name base.name a.names.file))
    (λ d i. h b f i)
archived_each P (step.DeleteArchived actor base) s a h k b f e = cond_cases (same_base b base) None (archived_of s.disk b) (Some f) e (λ d i. absurd (cc)) (λ d i. h b f i)
archived_each P (step.Place actor (moves.Written name) base cells) s a h k b f e = h b f e
archived_each P (step.Place actor (moves.WrittenBulk name) base cells) s a h k b f e = h b f e
archived_each P (step.Place actor (moves.StagedBulk folder name) base cells) s a h k b f e = h b f e
archived_each P (step.DropOld actor (old.Work snapshot parts.Info)) s a h k b f e = h b f e
archived_each P (step.Manifest actor parts.Info snapshot moment bytes) s a h k b f e = h b f e
archived_each P _ s a h k b f e = h b f e

pub archived_lawful_kept : (p : Step) (s : Parts) → Allows p s → IsSound s → ArchivedAreLawful (archived_of (disk_after (op_of p) s.disk))
archived_lawful_kept (step.Archive actor base) s a h = record {
  at = λ b f e. cond_cases (same_base b base) (live_of s.disk base) (archived_of s.disk b) (Some f) e (λ d i. subst IsBase (sym (same_base-true b base d)) a.names) (λ d i. h.archived_lawful.at b f i);
}
archived_lawful_kept (step.DeleteArchived actor base) s a h = record {
  at = λ b f e. cond_cases (same_base b base) None (archived_of s.disk b) (Some f) e (λ d i. absurd (cc)) (λ d i. h.archived_lawful.at b f i);
}
archived_lawful_kept (step.Place actor (moves.Written name) base cells) s a h = record { at = h.archived_lawful.at }
archived_lawful_kept (step.Place actor (moves.WrittenBulk name) base cells) s a h = record { at = h.archived_lawful.at }
archived_lawful_kept (step.Place actor (moves.StagedBulk folder name) base cells) s a h = record { at = h.archived_lawful.at }
archived_lawful_kept (step.DropOld actor (old.Work snapshot parts.Info)) s a h = record { at = h.archived_lawful.at }
archived_lawful_kept (step.Manifest actor parts.Info snapshot moment bytes) s a h = record { at = h.archived_lawful.at }
archived_lawful_kept _ s a h = record { at = h.archived_lawful.at }

pub written_stem : (s : Parts) (actor : ℕ) (name : List ℕ) (recipe : Recipe) → IsSound s → Wrote actor name recipe s.disk s.written → stem name ≡ name
written_stem s actor name recipe h w = let k = h.known_tmps.at name _ w.known in stem_drawn s.epoch k.0 name k.1
