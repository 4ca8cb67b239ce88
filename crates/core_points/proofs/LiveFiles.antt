-- Each file in a family's directory stood there before a step, or is one that the step makes.
use Rattle.std.proofs.Common.{◌≡◌, ℕ, List, [], Some, None, sym, ap, ◌∙◌, subst}
use Rattle.std.specs.Prelude.{option_map}
use Rattle.hb_layout.specs.declared.base.Base.{Base}
use Rattle.ns_tree.specs.declared.file.FileState.{FileState}
use Rattle.ns_tree.specs.Step.{with_moment}
use Rattle.core_model.specs.declared.entry.Entry.TheVariants as entries
use Rattle.core_model.specs.declared.step.Step.{Step}
use Rattle.core_model.specs.declared.step.Step.TheVariants as step
use Rattle.core_model.specs.declared.targets.ManifestPart.TheVariants as parts
use Rattle.core_model.specs.declared.targets.MoveFrom.TheVariants as moves
use Rattle.core_model.specs.declared.targets.OldFile.TheVariants as old
use Rattle.core_model.specs.Disk.{disk_after, live_of}
use Rattle.core_model.specs.Entries.{file_of}
use Rattle.core_model.specs.Keys.{same_base}
use Rattle.core_model.specs.Ops.{op_of}
use Rattle.core_model.specs.Site.{Tmp, Staged}
use Rattle.core_model.specs.State.{Parts}
use Rattle.core_sound.proofs.HoldsFound.{some_is}
use Rattle.core_sound.proofs.Lists.{map_some}
use Rattle.core_sound.proofs.Tests.{cond_cases, same_base-true}

-- the step makes a file there, with these bytes
abbrev pub MakesAt : Step → Base → List ℕ → Type 0
MakesAt (step.Place actor from base cells) b bytes = b ≡ base
MakesAt (step.Link actor base region) b bytes = b ≡ file_of region (entries.Link base)
MakesAt (step.Half actor entry region written) b bytes = (b ≡ file_of region entry) × (bytes ≡ written)
MakesAt _ b bytes = ⊥

pub live_was : (P : List ℕ → Type 0) (p : Step) (s : Parts) (b : Base) (f : FileState) → live_of (disk_after (op_of p) s.disk) b ≡ Some f
    → ((g : FileState) → live_of s.disk b ≡ Some g → P g.bytes) → (MakesAt p b f.bytes → P f.bytes) → P f.bytes
live_was P (step.Place actor (moves.Written name) base cells) s b f e h k = cond_cases (same_base b base) (s.disk (Tmp name)) (live_of s.disk b) (Some f) e (λ d i. k (same_base-true b base d)) (λ d i. h f i)
live_was P (step.Place actor (moves.WrittenBulk name) base cells) s b f e h k = cond_cases (same_base b base) (s.disk (Tmp name)) (live_of s.disk b) (Some f) e (λ d i. k (same_base-true b base d)) (λ d i. h f i)
live_was P (step.Place actor (moves.StagedBulk folder name) base cells) s b f e h k = cond_cases (same_base b base) (s.disk (Staged folder base.family name)) (live_of s.disk b) (Some f) e (λ d i. k (same_base-true b base d)) (λ d i. h f i)
live_was P (step.Stamp actor base moment) s b f e h k = cond_cases (same_base b base) (option_map (with_moment moment) (live_of s.disk base)) (live_of s.disk b) (Some f) e
    (λ d i. let w = map_some (with_moment moment) (live_of s.disk base) f i in subst (λ (x : FileState). P x.bytes) w.2 (h w.0 (ap (live_of s.disk) (same_base-true b base d) ∙ w.1)))
    (λ d i. h f i)
live_was P (step.Archive actor base) s b f e h k = cond_cases (same_base b base) None (live_of s.disk b) (Some f) e (λ d i. absurd (cc)) (λ d i. h f i)
live_was P (step.Unlink actor entry region) s b f e h k = cond_cases (same_base b (file_of region entry)) None (live_of s.disk b) (Some f) e (λ d i. absurd (cc)) (λ d i. h f i)
live_was P (step.Link actor base region) s b f e h k = cond_cases (same_base b (file_of region (entries.Link base))) (Some (record { bytes = []; moment = 0 })) (live_of s.disk b) (Some f) e
    (λ d i. k (same_base-true b (file_of region (entries.Link base)) d)) (λ d i. h f i)
live_was P (step.Half actor entry region bytes) s b f e h k = cond_cases (same_base b (file_of region entry)) (Some (record { bytes = bytes; moment = 0 })) (live_of s.disk b) (Some f) e
    (λ d i. k (same_base-true b (file_of region entry) d, ap (λ (x : FileState). x.bytes) (sym (some_is i)))) (λ d i. h f i)
live_was P (step.DropOld actor (old.Work snapshot parts.Info)) s b f e h k = h f e
live_was P (step.Manifest actor parts.Info snapshot moment bytes) s b f e h k = h f e
live_was P _ s b f e h k = h f e
