-- Each step keeps that named bases have lawful names, and that files that are waiting stand.
use Rattle.std.proofs.Common.{◌≡◌, ◌⊎◌, ℕ, ◌==◌, true, false, cond, [], Option, Some, None, refl, sym, ap, ◌∙◌, subst, inl, inr}
use Rattle.std.specs.Prelude.{option_map}
use Rattle.hb_layout.specs.declared.base.Base.{Base}
use Rattle.core_model.specs.Site.{Tmp, Live, Staged}
use Rattle.ns_tree.specs.declared.file.FileState.{FileState}
use Rattle.ns_tree.specs.Step.{with_moment}
use Rattle.core_model.specs.declared.entry.Entry.TheVariants as entries
use Rattle.core_model.specs.declared.targets.ManifestPart.TheVariants as parts
use Rattle.core_model.specs.declared.targets.MoveFrom.TheVariants as moves
use Rattle.core_model.specs.declared.targets.OldFile.TheVariants as old
use Rattle.core_model.specs.declared.step.Step.{Step}
use Rattle.core_model.specs.declared.step.Step.TheVariants as step
use Rattle.core_model.specs.ActorChanges.{waiting_by, unless_by}
use Rattle.core_model.specs.Allows.{Allows}
use Rattle.core_model.specs.Disk.{Bases, disk_after, live_of}
use Rattle.core_model.specs.Entries.{file_of, has_own, IsBase}
use Rattle.core_model.specs.FileFacts.{NamesAreLawful, WaitingStand}
use Rattle.core_model.specs.Keys.{same_base}
use Rattle.core_model.specs.Ops.{op_of}
use Rattle.core_model.specs.Replay.{after}
use Rattle.core_model.specs.Sound.{IsSound}
use Rattle.core_model.specs.State.{Parts}
use Rattle.core_sound.proofs.NeverAgain.{named_before}
use Rattle.core_sound.proofs.PlacesKept.{not_link}
use Rattle.core_sound.proofs.Tests.{cond_cases, same_base-true, same_base-self}

-- ---- names

pub names_kept : (p : Step) (s : Parts) → Allows p s → IsSound s
    → NamesAreLawful (after p s).plain.tables (after p s).lists (after p s).snapshots (after p s).captures (after p s).plans (after p s).pins (live_of (after p s).disk)
names_kept p s a h = record { at = λ b i. elim (named_before p s a h b i) [ inl n ↦ h.lawful.at b n | inr l ↦ l.2 ] }

-- ---- a file that stands, after a step

abbrev pub IsThere : Bases → Base → Type 0
IsThere live b = (f : FileState) × (live b ≡ Some f)

pub put_there : (live : Bases) (b : Base) (f : FileState) (o : Option FileState) → o ≡ Some f → (c : Base) → IsThere live c → IsThere (λ x. cond (same_base x b) o (live x)) c
put_there live b f o e c h = elim (same_base c b) as (λ y. IsThere (λ x. cond y o (live c)) c) [ true ↦ (f, e) | false ↦ h ]

pub taken_there : (live : Bases) (b c : Base) → (c ≡ b → ⊥) → IsThere live c → IsThere (λ x. cond (same_base x b) None (live x)) c
taken_there live b c n h = elim (same_base c b) as (λ y. same_base c b ≡ y → IsThere (λ x. cond y None (live c)) c) [ true ↦ λ d. absurd (n (same_base-true c b d)) | false ↦ λ d. h ] refl

-- the step neither archives the base nor takes it away
abbrev pub NotTaken : Step → Base → Type 0
NotTaken (step.Archive actor base) b = b ≡ base → ⊥
NotTaken (step.Unlink actor entry region) b = b ≡ file_of region entry → ⊥
NotTaken _ b = Unit {0}

pub there_after : (p : Step) (s : Parts) → Allows p s → (b : Base) → NotTaken p b → IsThere (live_of s.disk) b → IsThere (live_of (disk_after (op_of p) s.disk)) b
there_after (step.Place actor (moves.Written name) base cells) s a b d h = put_there (live_of s.disk) base a.moved.wrote.file (s.disk (Tmp name)) a.moved.wrote.stands b h
there_after (step.Place actor (moves.WrittenBulk name) base cells) s a b d h = put_there (live_of s.disk) base a.moved.wrote.file (s.disk (Tmp name)) a.moved.wrote.stands b h
there_after (step.Place actor (moves.StagedBulk folder name) base cells) s a b d h = put_there (live_of s.disk) base a.moved.file (s.disk (Staged folder base.family name)) a.moved.stands b h
there_after (step.Stamp actor base moment) s a b d h = put_there (live_of s.disk) base _ (option_map (with_moment moment) (s.disk (Live base))) (ap (option_map (with_moment moment)) a.stands) b h
there_after (step.Archive actor base) s a b d h = taken_there (live_of s.disk) base b d h
there_after (step.Link actor base region) s a b d h = put_there (live_of s.disk) (file_of region (entries.Link base)) (record { bytes = []; moment = 0 }) _ refl b h
there_after (step.Half actor entry region bytes) s a b d h = put_there (live_of s.disk) (file_of region entry) (record { bytes = bytes; moment = 0 }) _ refl b h
there_after (step.Unlink actor entry region) s a b d h = taken_there (live_of s.disk) (file_of region entry) b d h
there_after (step.DropOld actor (old.Work snapshot parts.Info)) s a b d h = h
there_after (step.Manifest actor parts.Info snapshot moment bytes) s a b d h = h
there_after _ s a b d h = h

-- ---- files that are waiting

-- a base that waits after a step waited, or is one that the step placed
abbrev Waited : Step → (Base → Option ℕ) → Base → ℕ → Type 0
Waited (step.Place actor from base cells) waiting b a = ((b ≡ base) ⊎ (waiting b ≡ Some a))
Waited _ waiting b a = waiting b ≡ Some a

not_ended : (actor a : ℕ) (o : Option ℕ) → unless_by actor o ≡ Some a → o ≡ Some a
not_ended actor a None e = e
not_ended actor a (Some w) e = cond_cases (w == actor) None (Some w) (Some a) e (λ d i. absurd (cc)) (λ d i. i)

waited : (p : Step) (waiting : Base → Option ℕ) (b : Base) (a : ℕ) → waiting_by p waiting b ≡ Some a → Waited p waiting b a
waited (step.Place actor from base cells) waiting b a e = cond_cases (same_base b base) (Some actor.0) (waiting b) (Some a) e (λ d i. inl (same_base-true b base d)) (λ d i. inr i)
waited (step.CommitList actor region number name why list cells planned) waiting b a e = cond_cases (has_own list.entries b) None (waiting b) (Some a) e (λ d i. absurd (cc)) (λ d i. i)
waited (step.End actor refusal) waiting b a e = not_ended actor.0 a (waiting b) e
waited (step.Abandon actor) waiting b a e = not_ended actor.0 a (waiting b) e
waited _ waiting b a e = e

abbrev Waits : Bases → Base → Type 0
Waits live b = (f : FileState) × (live b ≡ Some f) × IsBase b

wait_after : (p : Step) (s : Parts) → Allows p s → IsSound s → (b : Base) (w : ℕ) → s.waiting b ≡ Some w → NotTaken p b
wait_after (step.Archive actor base) s a h b w e = λ d. let z : None ≡ Some w = sym a.free.not_waiting ∙ ap s.waiting (sym d) ∙ e in absurd (cc)
wait_after (step.Unlink actor entry region) s a h b w e = not_link b region entry (h.waiting.at b w e).2 a.refers
wait_after _ s a h b w e = tt

stays : (p : Step) (s : Parts) → Allows p s → IsSound s → (b : Base) (w : ℕ) → s.waiting b ≡ Some w → Waits (live_of (disk_after (op_of p) s.disk)) b
stays p s a h b w e = let k = h.waiting.at b w e in let m = there_after p s a b (wait_after p s a h b w e) (k.0, k.1) in (m.0, m.1, k.2)

place_waits : (s : Parts) (b : Base) (f : FileState) (o : Option FileState) → o ≡ Some f → IsBase b → (c : Base) → c ≡ b → Waits (λ x. cond (same_base x b) o (live_of s.disk x)) c
place_waits s b f o e n c d = subst (Waits (λ x. cond (same_base x b) o (live_of s.disk x))) (sym d) (f, ap (λ y. cond y o (live_of s.disk b)) (same_base-self b) ∙ e, n)

waits_by : (p : Step) (s : Parts) → Allows p s → IsSound s → (b : Base) (w : ℕ) → Waited p s.waiting b w → Waits (live_of (disk_after (op_of p) s.disk)) b
waits_by (step.Place actor (moves.Written name) base cells) s a h b w (inl d) = place_waits s base a.moved.wrote.file (s.disk (Tmp name)) a.moved.wrote.stands a.names b d
waits_by (step.Place actor (moves.WrittenBulk name) base cells) s a h b w (inl d) = place_waits s base a.moved.wrote.file (s.disk (Tmp name)) a.moved.wrote.stands a.names b d
waits_by (step.Place actor (moves.StagedBulk folder name) base cells) s a h b w (inl d) = place_waits s base a.moved.file (s.disk (Staged folder base.family name)) a.moved.stands a.names b d
waits_by (step.Place actor (moves.Written name) base cells) s a h b w (inr e) = stays (step.Place actor (moves.Written name) base cells) s a h b w e
waits_by (step.Place actor (moves.WrittenBulk name) base cells) s a h b w (inr e) = stays (step.Place actor (moves.WrittenBulk name) base cells) s a h b w e
waits_by (step.Place actor (moves.StagedBulk folder name) base cells) s a h b w (inr e) = stays (step.Place actor (moves.StagedBulk folder name) base cells) s a h b w e
waits_by p s a h b w e = stays p s a h b w e

pub waiting_kept : (p : Step) (s : Parts) → Allows p s → IsSound s → WaitingStand (after p s).waiting (live_of (after p s).disk)
waiting_kept p s a h = record { at = λ b w e. waits_by p s a h b w (waited p s.waiting b w e) }
