-- Each step keeps that the file of a half is a reference.
use Rattle.std.proofs.Common.{◌≡◌, ℕ, true, false, cond, List, [], Option, Some, None, sym, ap, ◌∙◌, subst}
use Rattle.std.specs.Prelude.{option_map}
use Rattle.hb_layout.specs.declared.base.Base.{Base}
use Rattle.ns_tree.specs.declared.file.FileState.{FileState}
use Rattle.ns_tree.specs.Step.{with_moment}
use Rattle.plain_model.specs.declared.region_key.RegionKey.{RegionKey}
use Rattle.snapshot_records.specs.declared.reference.Reference.{Reference}
use Rattle.snapshot_records.specs.Reference.{IsReference}
use Rattle.core_model.specs.declared.entry.Entry.{Entry}
use Rattle.core_model.specs.declared.entry.Entry.TheVariants as entries
use Rattle.core_model.specs.declared.targets.ManifestPart.TheVariants as parts
use Rattle.core_model.specs.declared.targets.MoveFrom.TheVariants as moves
use Rattle.core_model.specs.declared.targets.OldFile.TheVariants as old
use Rattle.core_model.specs.declared.step.Step.{Step}
use Rattle.core_model.specs.declared.step.Step.TheVariants as step
use Rattle.core_model.specs.Allows.{Allows}
use Rattle.core_model.specs.Disk.{Bases, disk_after, live_of}
use Rattle.core_model.specs.Entries.{file_of, is_half, IsBase}
use Rattle.core_model.specs.Keys.{same_base}
use Rattle.core_model.specs.Ops.{op_of}
use Rattle.core_model.specs.Site.{Tmp, Staged, is_store_name}
use Rattle.core_model.specs.State.{Parts}
use Rattle.core_sound.proofs.Lists.{map_some}
use Rattle.core_sound.proofs.NameFacts.{store_name}
use Rattle.core_sound.proofs.NeverAgain.{not_store, half_not_own}
use Rattle.core_sound.proofs.Tests.{cond_cases, same_base-true}
use Rattle.core_bytes.specs.FileOf.{IsPointer}
use Rattle.core_bytes.specs.Written.{WritesFile, HasReferences}
use Rattle.core_bytes.proofs.WrittenNames.{link_no_half}

abbrev IsHalfFile : List ℕ → Type 0
IsHalfFile bytes = (x : Reference) × IsReference bytes x

-- a store file is placed at no half's place
placed_not : {X : Type 0} (b : Base) (r : RegionKey) (e : Entry) → IsBase b → is_half e ≡ true → file_of r e ≡ b → X
placed_not b r e n h i = let z : true ≡ false = sym (store_name b.name n.file) ∙ ap (λ (x : Base). is_store_name x.name) (sym i) ∙ not_store e (half_not_own e h) in absurd (cc)

half_file : (e : Entry) (bytes : List ℕ) → is_half e ≡ true → IsPointer e bytes → IsHalfFile bytes
half_file (entries.Own b) bytes h w = absurd (cc)
half_file (entries.Link b) bytes h w = absurd (cc)
half_file (entries.Half b linked parent row top) bytes h w = (record { row = row; top = top }, w)

placed_at : (live : Bases) (b : Base) (o : Option FileState) → IsBase b → HasReferences live → HasReferences (λ x. cond (same_base x b) o (live x))
placed_at live b o n h = record { at = λ r e f i k j. cond_cases (same_base (file_of r e) b) o (live (file_of r e)) (Some f) j (λ d z. placed_not b r e n k (same_base-true (file_of r e) b d)) (λ d z. h.at r e f i k z) }

gone_at : (live : Bases) (b : Base) → HasReferences live → HasReferences (λ x. cond (same_base x b) None (live x))
gone_at live b h = record { at = λ r e f i k j. cond_cases (same_base (file_of r e) b) None (live (file_of r e)) (Some f) j (λ d z. absurd (cc)) (λ d z. h.at r e f i k z) }

some_is : {A : Type 0} {x y : A} → Some x ≡ Some y → x ≡ y
some_is e = (cc)

pub references_kept : (p : Step) (s : Parts) → Allows p s → WritesFile p → HasReferences (live_of s.disk) → HasReferences (live_of (disk_after (op_of p) s.disk))
references_kept (step.Place actor (moves.Written name) base cells) s a w h = placed_at (live_of s.disk) base (s.disk (Tmp name)) a.names h
references_kept (step.Place actor (moves.WrittenBulk name) base cells) s a w h = placed_at (live_of s.disk) base (s.disk (Tmp name)) a.names h
references_kept (step.Place actor (moves.StagedBulk folder name) base cells) s a w h = placed_at (live_of s.disk) base (s.disk (Staged folder base.family name)) a.names h
references_kept (step.Stamp actor base moment) s a w h = record {
  at = λ r e f i k j. cond_cases (same_base (file_of r e) base) (option_map (with_moment moment) (live_of s.disk base)) (live_of s.disk (file_of r e)) (Some f) j
      (λ d z. let v = map_some (with_moment moment) (live_of s.disk base) f z in subst (λ (x : FileState). IsHalfFile x.bytes) v.2 (h.at r e v.0 i k (ap (live_of s.disk) (same_base-true (file_of r e) base d) ∙ v.1)))
      (λ d z. h.at r e f i k z);
}
references_kept (step.Archive actor base) s a w h = gone_at (live_of s.disk) base h
references_kept (step.Unlink actor entry region) s a w h = gone_at (live_of s.disk) (file_of region entry) h
references_kept (step.Link actor base region) s a w h = record {
  at = λ r e f i k j. cond_cases (same_base (file_of r e) (file_of region (entries.Link base))) (Some (record { bytes = []; moment = 0 })) (live_of s.disk (file_of r e)) (Some f) j
      (λ d z. link_no_half region r base e a.names i k (sym (same_base-true (file_of r e) (file_of region (entries.Link base)) d)))
      (λ d z. h.at r e f i k z);
}
references_kept (step.Half actor entry region bytes) s a w h = record {
  at = λ r e f i k j. cond_cases (same_base (file_of r e) (file_of region entry)) (Some (record { bytes = bytes; moment = 0 })) (live_of s.disk (file_of r e)) (Some f) j
      (λ d z. subst (λ (x : FileState). IsHalfFile x.bytes) (some_is z) (half_file entry bytes a.half w))
      (λ d z. h.at r e f i k z);
}
references_kept (step.DropOld actor (old.Work snapshot parts.Info)) s a w h = h
references_kept (step.Manifest actor parts.Info snapshot moment bytes) s a w h = h
references_kept _ s a w h = h
