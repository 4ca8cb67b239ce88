-- Each step keeps that files may stand where they stand.
use Rattle.std.proofs.Common.{◌≡◌, ℕ, ◌+◌, Bool, true, false, cond, List, [], ◌∷◌, ◌++◌, take, Option, Some, None, refl, sym, ap, ◌∙◌, subst, inl, inr}
use Rattle.std.specs.Prelude.{option_map}
use Rattle.std.proofs.lemmas.List.{append_assoc}
use Rattle.cell_sight.specs.Member.{Member}
use Rattle.hb_file_names.specs.FileName.{IsFileName}
use Rattle.hb_file_names.specs.FileParts.{file_text, sixteen_digits, suffix_text}
use Rattle.hb_layout.specs.declared.base.Base.{Base}
use Rattle.hb_layout.specs.Lawful.{HasEpoch, HasEpochs, IsEpoch, link, half, half_link}
use Rattle.hb_layout.specs.Spot as layout
use Rattle.hb_names.specs.Encoded.{IsEncoded}
use Rattle.ns_tree.specs.declared.file.FileState.{FileState}
use Rattle.ns_tree.specs.Step.{with_moment}
use Rattle.plain_model.specs.declared.region_key.RegionKey.{RegionKey}
use Rattle.core_model.specs.declared.entry.Entry.{Entry}
use Rattle.core_model.specs.declared.entry.Entry.TheVariants as entries
use Rattle.core_model.specs.declared.journal.JournalEntry.{JournalEntry}
use Rattle.core_model.specs.declared.opening.Opening.{Opening}
use Rattle.core_model.specs.declared.step.Step.{Step}
use Rattle.core_model.specs.declared.step.Step.TheVariants as step
use Rattle.core_model.specs.declared.targets.ManifestPart.TheVariants as parts
use Rattle.core_model.specs.declared.targets.MoveFrom.TheVariants as moves
use Rattle.core_model.specs.declared.targets.OldFile.TheVariants as old
use Rattle.core_model.specs.Allows.{Allows, AllowsAll, AllowsEntry, AllowsFrom}
use Rattle.core_model.specs.Disk.{Disk, HasPlace, Op, Nothing, Create, Rename, Remove, Touch, Publish, Withdraw, disk_after, live_of, archived_of, is_live, is_archived, same_site}
use Rattle.core_model.specs.Entries.{base_of, file_of, is_half, is_own, IsBase, IsEntryIn}
use Rattle.core_model.specs.FileGuards.{next_name}
use Rattle.core_model.specs.Keys.{home}
use Rattle.core_model.specs.Named.{planned}
use Rattle.core_model.specs.Opened.{opened}
use Rattle.core_model.specs.Ops.{op_of}
use Rattle.core_model.specs.Replay.{after, unless, replay_from, begun, replay}
use Rattle.core_model.specs.Replay as replay
use Rattle.core_model.specs.Site.{Site, Epoch, Tmp, RegionSet, StoreList, Live, Archived, BackRefTo, Info, Manifest, WorkInfo, WorkManifest, Staged, is_store_name, pointer_at, spot_of}
use Rattle.core_model.specs.Sound.{IsSound, IsSoundState}
use Rattle.core_model.specs.State.{Parts, State}
use Rattle.core_sites.proofs.Tests.{same_site-true}
use Rattle.core_sound.proofs.Journals.{HasFew, few_after, few-begun, allowed_other, entry_kept, sound-begun, allows_front}
use Rattle.core_sound.proofs.HoldsFound.{some_is}
use Rattle.core_sound.proofs.Lists.{map_some}
use Rattle.core_sound.proofs.NameFacts.{store_name, parent_of}
use Rattle.core_sound.proofs.NeverAgain.{not_store, half_not_own}
use Rattle.core_sound.proofs.Tests.{cond_cases}
use Rattle.core_bytes.proofs.WrittenNames.{link_no_half}
use Rattle.core_complete.specs.Placed.{IsEmptyAt, IsPlaced, ArePlaced, IsWellPlaced, IsWellPlacedState, KeepsPlaced}

-- ---- an operation

-- what an operation makes may stand there
abbrev Makes : Op → Disk → Type 0
Makes (Create p bytes) d = IsPlaced p bytes
Makes (Rename p q) d = (f : FileState) → d p ≡ Some f → IsPlaced q f.bytes
Makes _ d = Unit {0}

-- the files of snapshots may have any bytes
of_snapshots : (n bytes : List ℕ) → IsPlaced (Info n) bytes × IsPlaced (Manifest n) bytes × IsPlaced (WorkInfo n) bytes × IsPlaced (WorkManifest n) bytes
of_snapshots n bytes = (record { epochs = tt; empty = tt }, record { epochs = tt; empty = tt }, record { epochs = tt; empty = tt }, record { epochs = tt; empty = tt })

published_placed : (n : List ℕ) (d : Disk) → ArePlaced d → ArePlaced (disk_after (Publish n) d)
published_placed n d h (Info m) f e = (of_snapshots m f.bytes).0
published_placed n d h (Manifest m) f e = (of_snapshots m f.bytes).1
published_placed n d h (WorkInfo m) f e = (of_snapshots m f.bytes).2
published_placed n d h (WorkManifest m) f e = (of_snapshots m f.bytes).3
published_placed n d h q f e = h q f e

withdrawn_placed : (n : List ℕ) (d : Disk) → ArePlaced d → ArePlaced (disk_after (Withdraw n) d)
withdrawn_placed n d h (Info m) f e = (of_snapshots m f.bytes).0
withdrawn_placed n d h (Manifest m) f e = (of_snapshots m f.bytes).1
withdrawn_placed n d h (WorkInfo m) f e = (of_snapshots m f.bytes).2
withdrawn_placed n d h (WorkManifest m) f e = (of_snapshots m f.bytes).3
withdrawn_placed n d h q f e = h q f e

operation_placed : (o : Op) (d : Disk) → ArePlaced d → Makes o d → ArePlaced (disk_after o d)
operation_placed Nothing d h m q f e = h q f e
operation_placed (Create p bytes) d h m q f e = cond_cases (same_site q p) (Some (record { bytes = bytes; moment = 0 })) (d q) (Some f) e
    (λ k i. subst (λ (x : Site). IsPlaced x f.bytes) (sym (same_site-true q p k)) (subst (λ (x : FileState). IsPlaced p x.bytes) (some_is i) m))
    (λ k i. h q f i)
operation_placed (Rename p r) d h m q f e = cond_cases (same_site q r) (d p) (cond (same_site q p) None (d q)) (Some f) e
    (λ k i. subst (λ (x : Site). IsPlaced x f.bytes) (sym (same_site-true q r k)) (m f i))
    (λ k i. cond_cases (same_site q p) None (d q) (Some f) i (λ l j. absurd (cc)) (λ l j. h q f j))
operation_placed (Remove p) d h m q f e = cond_cases (same_site q p) None (d q) (Some f) e (λ k i. absurd (cc)) (λ k i. h q f i)
operation_placed (Touch p moment) d h m q f e = cond_cases (same_site q p) (option_map (with_moment moment) (d p)) (d q) (Some f) e
    (λ k i. let w = map_some (with_moment moment) (d p) f i in subst (λ (x : FileState). IsPlaced q x.bytes) w.2 (h q w.0 (ap d (same_site-true q p k) ∙ w.1)))
    (λ k i. h q f i)
operation_placed (Publish n) d h m q f e = published_placed n d h q f e
operation_placed (Withdraw n) d h m q f e = withdrawn_placed n d h q f e

-- ---- epochs in names

drawn_epoch : (epoch files : ℕ) (seq : Option ℕ) (name : List ℕ) → IsEpoch epoch → name ≡ next_name epoch files seq → HasEpoch name
drawn_epoch epoch files seq name h e = record { parts = record { epoch = epoch; counter = files + 1; seq = seq }; text = e; limit = h }

suffixed : (epoch k : ℕ) (seq : Option ℕ) → next_name epoch k None ++ suffix_text seq ≡ next_name epoch k seq
suffixed epoch k seq = append_assoc (sixteen_digits epoch) (sixteen_digits (k + 1) ++ suffix_text None) (suffix_text seq)
    ∙ ap (λ x. sixteen_digits epoch ++ x) (append_assoc (sixteen_digits (k + 1)) (suffix_text None) (suffix_text seq))

abbrev HasEpochsAt : Base → Type 0
HasEpochsAt b = HasEpochs (spot_of (Live b))

-- of a store file's name that has an epoch
live_epochs : (b : Base) → is_store_name b.name ≡ true → HasEpoch b.name → HasEpochsAt b
live_epochs b o h = subst (λ x. HasEpochs (cond x (layout.Live b) (layout.Pointing (pointer_at b)))) (sym o) h

name_epoch : (b : Base) → is_store_name b.name ≡ true → HasEpochsAt b → HasEpoch b.name
name_epoch b o h = subst (λ x. HasEpochs (cond x (layout.Live b) (layout.Pointing (pointer_at b)))) o h

pointing_epochs : (b : Base) → is_store_name b.name ≡ false → HasEpochs (layout.Pointing (pointer_at b)) → HasEpochsAt b
pointing_epochs b o h = subst (λ x. HasEpochs (cond x (layout.Live b) (layout.Pointing (pointer_at b)))) (sym o) h

-- the name of a base that stands has an epoch
place_epoch : (d : Disk) (b : Base) → ArePlaced d → IsBase b → HasPlace (live_of d) (archived_of d) b → HasEpoch b.name
place_epoch d b h n (is_live f e) = name_epoch b (store_name b.name n.file) (h (Live b) f e).epochs
place_epoch d b h n (is_archived f e) = (h (Archived b) f e).epochs

-- so does that of a planned base
planned_epoch : (s : Parts) → IsSound s → IsWellPlaced s → (a : ℕ) (region : List ℕ) (e : Entry) → Member (region, e) (s.plans a).entries → HasEpoch (base_of e).name
planned_epoch s h k a region e m = let n = planned a (region, e) m refl in place_epoch s.disk (base_of e) k.files (h.lawful.at (base_of e) n) (h.places.at (base_of e) n)

-- links and halves are named after their bases
pointer_epochs : (r : RegionKey) (e : Entry) → is_own e ≡ false → IsEntryIn r e → HasEpoch (base_of e).name → HasEpochs (layout.Pointing (pointer_at (file_of r e)))
pointer_epochs r (entries.Own b) o n h = absurd (cc)
pointer_epochs r (entries.Link b) o n h = (b.name, n.file, link b.table b.region n.names.table n.names.region refl, h)
pointer_epochs r (entries.Half b true p row top) o n h = (b.name, n.0.file, half_link b.table b.region p n.0.names.table n.0.names.region n.1 refl, h)
pointer_epochs r (entries.Half b false p row top) o n h = (b.name, n.0.file, half p (parent_of r b p n.0 n.1) refl, h)

pointer_at_file : (r : RegionKey) (e : Entry) → is_own e ≡ false → IsEntryIn r e → HasEpoch (base_of e).name → HasEpochsAt (file_of r e)
pointer_at_file r e o n h = pointing_epochs (file_of r e) (not_store e o) (pointer_epochs r e o n h)

-- ---- what steps make

-- a store file is no link
placed_empty : (b : Base) (bytes : List ℕ) → IsBase b → IsEmptyAt (Live b) bytes
placed_empty b bytes n r c m e = let z : true ≡ false = sym (store_name b.name n.file) ∙ ap (λ (x : Base). is_store_name x.name) (sym e) ∙ not_store (entries.Link c) refl in absurd (cc)

half_empty : (r : RegionKey) (e : Entry) (bytes : List ℕ) → is_half e ≡ true → IsEntryIn r e → IsEmptyAt (Live (file_of r e)) bytes
half_empty r e bytes u n q c m i = link_no_half q r c e m n u i

stored_epochs : (b : Base) → IsBase b → HasEpoch b.name → HasEpochsAt b
stored_epochs b n h = live_epochs b (store_name b.name n.file) h

piece_epoch : (s : Parts) (name : List ℕ) (b : Base) (seq : Option ℕ) → IsWellPlaced s → (k : ℕ) → name ≡ next_name s.epoch k None → b.name ≡ name ++ suffix_text seq → HasEpoch b.name
piece_epoch s name b seq h k e i = drawn_epoch s.epoch k seq b.name h.epoch (i ∙ ap (λ x. x ++ suffix_text seq) e ∙ suffixed s.epoch k seq)

makes : (p : Step) (s : Parts) → Allows p s → IsSound s → IsWellPlaced s → Makes (op_of p) s.disk
makes (step.WriteTmp actor recipe name cells bytes) s a h k = record { epochs = drawn_epoch s.epoch s.files None name k.epoch a.new; empty = tt }
makes (step.Place actor (moves.Written name) base cells) s a h k = λ f e. record { epochs = stored_epochs base a.names (subst HasEpoch (sym a.moved.named) (k.files (Tmp name) f e).epochs); empty = placed_empty base f.bytes a.names }
makes (step.Place actor (moves.WrittenBulk name) base cells) s a h k = λ f e.
    let w = h.known_tmps.at name _ a.moved.wrote.known in
    record { epochs = stored_epochs base a.names (piece_epoch s name base (Some (s.plain.seq (home base) + 1)) k w.0 w.1 a.moved.named); empty = placed_empty base f.bytes a.names }
makes (step.Place actor (moves.StagedBulk folder name) base cells) s a h k = λ f e. record { epochs = stored_epochs base a.names (drawn_epoch s.epoch s.files (Some (s.plain.seq (home base) + 1)) base.name k.epoch a.moved.named); empty = placed_empty base f.bytes a.names }
makes (step.CommitList actor region number name why list cells more) s a h k = λ f e. record { epochs = tt; empty = tt }
makes (step.CommitRegions actor table number name set change) s a h k = λ f e. record { epochs = tt; empty = tt }
makes (step.Archive actor base) s a h k = λ f e. record { epochs = name_epoch base (store_name base.name a.names.file) (k.files (Live base) f e).epochs; empty = tt }
makes (step.BackRef actor base region) s a h k = record { epochs = subst (λ (b : Base). HasEpoch b.name) a.reads (planned_epoch s h k actor.0 region.region a.entry a.planned); empty = refl }
makes (step.Link actor base region) s a h k = record { epochs = pointer_at_file region (entries.Link base) refl a.names (planned_epoch s h k actor.0 region.region (entries.Link base) a.planned); empty = λ r b n e. refl }
makes (step.Half actor entry region bytes) s a h k = record {
  epochs = pointer_at_file region entry (half_not_own entry a.half) a.refer.names (planned_epoch s h k actor.0 region.region entry a.refer.planned);
  empty = half_empty region entry bytes a.half a.refer.names;
}
makes (step.Manifest actor parts.Info snapshot moment bytes) s a h k = record { epochs = tt; empty = tt }
makes (step.Manifest actor parts.Data snapshot moment bytes) s a h k = record { epochs = tt; empty = tt }
makes (step.DropOld actor (old.Work snapshot parts.Info)) s a h k = tt
makes _ s a h k = tt

pub placed_kept : (p : Step) (s : Parts) → KeepsPlaced p s
placed_kept p s a h k = record { epoch = k.epoch; files = operation_placed (op_of p) s.disk k.files (makes p s a h k) }

-- ---- journals

placed_entry : (n : ℕ) (e : JournalEntry) (s : State) → AllowsEntry n e s → IsSoundState s → IsWellPlacedState s → IsWellPlacedState (replay.step n s e)
placed_entry n e s a h k = record {
  now = elim e.failed as (λ b. IsWellPlaced (unless b (after e.step) s.now)) [ true ↦ k.now | false ↦ placed_kept e.step s.now a.0.1 h.now k.now ];
  other = placed_kept e.step s.other (allowed_other n e s a h) h.other k.other;
}

placed_from : (n : ℕ) (es : List JournalEntry) (s : State) → HasFew n s → AllowsFrom n s es → IsSoundState s → IsWellPlacedState s → IsWellPlacedState (replay_from n s es)
placed_from n [] s w a h k = k
placed_from n (e ∷ es) s w a h k = placed_from (n + 1) es (replay.step n s e) (few_after n e s a.0 w) a.1 (entry_kept n e s w a.0 h) (placed_entry n e s a.0 h k)

pub placed_replay : (o : Opening) (es : List JournalEntry) (k : ℕ) → IsSound (opened o) → IsWellPlaced (opened o) → AllowsAll o es → IsWellPlacedState (replay o (take k es))
unfolding replay
placed_replay o es k h w a = placed_from 0 (take k es) (begun o) (few-begun o) (allows_front k 0 es (begun o) a) (sound-begun o h) (record { now = w; other = w })
