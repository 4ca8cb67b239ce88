-- Each step keeps that files have the sizes that are known.
use Rattle.std.proofs.Common.{◌≡◌, ℕ, ◌≤◌, ◌&&◌, cond, List, Option, Some, None, sym, ap, ◌∙◌}
use Rattle.std.specs.Prelude.{length}
use Rattle.hb_cell.specs.Order.{same_bytes}
use Rattle.hb_layout.specs.declared.base.Base.{Base}
use Rattle.ns_tree.specs.declared.file.FileState.{FileState}
use Rattle.core_model.specs.declared.targets.ManifestPart.TheVariants as parts
use Rattle.core_model.specs.declared.targets.MoveFrom.TheVariants as moves
use Rattle.core_model.specs.declared.targets.OldFile.TheVariants as old
use Rattle.core_model.specs.declared.step.Step.{Step}
use Rattle.core_model.specs.declared.step.Step.TheVariants as step
use Rattle.core_model.specs.Allows.{Allows}
use Rattle.core_model.specs.Disk.{disk_after, tmps_of, live_of, archived_of}
use Rattle.core_model.specs.FileChanges.{sizes_by, size_in, written_by}
use Rattle.core_model.specs.Keys.{same_base}
use Rattle.core_model.specs.Ops.{op_of}
use Rattle.core_model.specs.Replay.{after}
use Rattle.core_model.specs.Site.{Staged}
use Rattle.core_model.specs.Sound.{IsSound}
use Rattle.core_model.specs.State.{Parts, Written}
use Rattle.core_sound.proofs.FilesKept.{PlacedAt, OfLive, live_each, archived_each}
use Rattle.core_sound.proofs.NamesKept.{placed_stem, piece_stem}
use Rattle.core_sound.proofs.Tests.{cond_cases, same_base-self}
use Rattle.core_bytes.specs.Written.{HasSizes, HasTmpSizes, HasStaged, IsSized}
use Rattle.core_bytes.proofs.Drawn.{sizes_stay, digits_drawn}

some_is : {A : Type 0} {x y : A} → Some x ≡ Some y → x ≡ y
some_is e = (cc)

-- ---- placed files

placed_size : (p : Step) (s : Parts) → Allows p s → IsSound s → IsSized s → (b : Base) (f : FileState) → PlacedAt p s b f → sizes_by p s.opened s.sizes b ≡ Some (length f.bytes)
placed_size (step.Place actor (moves.Written name) base cells) s a g h b f z = h.tmps.at name f _ z.1 a.moved.wrote.known b (placed_stem s actor.0 name base b g cells a z.0)
placed_size (step.Place actor (moves.WrittenBulk name) base cells) s a g h b f z = h.tmps.at name f _ z.1 a.moved.wrote.known b (piece_stem s actor.0 name base b g cells a z.0)
placed_size (step.Place actor (moves.StagedBulk folder name) base cells) s a g h b f z =
    ap (λ x. cond x (size_in (s.opened (Staged folder base.family name))) (s.sizes b)) (ap (λ x. same_base x base) z.0 ∙ same_base-self base) ∙ ap size_in (h.staged.at folder base.family name f z.1)
placed_size _ s a g h b f z = absurd z

sizes_kept : (p : Step) (s : Parts) → s.files ≤ 4_194_304 → Allows p s → IsSound s → IsSized s → HasSizes (live_of (disk_after (op_of p) s.disk)) (archived_of (disk_after (op_of p) s.disk)) (sizes_by p s.opened s.sizes)
sizes_kept p s few a g h = record {
  live_size = live_each HasSize p s a stays (placed_size p s a g h);
  archived_size = archived_each HasSize p s a (λ b f e. sizes_stay p s few a b (g.names.archived_file b f e) ∙ h.files.archived_size b f e) stays;
}
  where
    HasSize : Base → List ℕ → Type 0
    HasSize b bytes = sizes_by p s.opened s.sizes b ≡ Some (length bytes)

    stays : OfLive HasSize (live_of s.disk)
    stays b f e o = sizes_stay p s few a b (g.names.live_file b f e o) ∙ h.files.live_size b f e o

-- ---- temporary files

sizes_move : (tmps : List ℕ → Option FileState) (written : List ℕ → Option Written) (sizes : Base → Option ℕ) (n : List ℕ) → HasTmpSizes tmps written sizes → HasTmpSizes (λ m. cond (same_bytes m n) None (tmps m)) written sizes
sizes_move tmps written sizes n h = record { at = λ m f w e k b i. cond_cases (same_bytes m n) None (tmps m) (Some f) e (λ d j. absurd (cc)) (λ d j. h.at m f w j k b i) }

tmp_sizes_kept : (p : Step) (s : Parts) → s.files ≤ 4_194_304 → Allows p s → IsSound s → IsSized s → HasTmpSizes (tmps_of (disk_after (op_of p) s.disk)) (written_by p s.written) (sizes_by p s.opened s.sizes)
tmp_sizes_kept (step.WriteTmp actor recipe name cells bytes) s few a g h = record {
  at = λ m f w e k b i. cond_cases (same_bytes m name) (Some (record { bytes = bytes; moment = 0 })) (tmps_of s.disk m) (Some f) e
      (λ d j. let x : record { bytes = bytes; moment = 0 } ≡ f = some_is j in
      ap (λ y. cond y (Some (length bytes)) (s.sizes b)) (ap (λ y. same_bytes y name) i ∙ d) ∙ ap (λ (y : FileState). Some (length y.bytes)) x)
      (λ d j. ap (λ y. cond y (Some (length bytes)) (s.sizes b)) (ap (λ y. same_bytes y name) i ∙ d)
      ∙ h.tmps.at m f w j (sym (ap (λ y. cond y (Some (record { by = actor.0; recipe = recipe; cells = cells })) (s.written m)) d) ∙ k) b i);
}
tmp_sizes_kept (step.Place actor (moves.Written name) base cells) s few a g h = sizes_move (tmps_of s.disk) s.written s.sizes name h.tmps
tmp_sizes_kept (step.Place actor (moves.WrittenBulk name) base cells) s few a g h = sizes_move (tmps_of s.disk) s.written s.sizes name h.tmps
tmp_sizes_kept (step.Place actor (moves.StagedBulk folder name) base cells) s few a g h = record {
  at = λ m f w e k b i. sizes_stay (step.Place actor (moves.StagedBulk folder name) base cells) s few a b (digits_drawn s m w g k b i) ∙ h.tmps.at m f w e k b i;
}
tmp_sizes_kept (step.CommitList actor region number name why list cells planned) s few a g h = sizes_move (tmps_of s.disk) s.written s.sizes name h.tmps
tmp_sizes_kept (step.CommitRegions actor table number name set change) s few a g h = sizes_move (tmps_of s.disk) s.written s.sizes name h.tmps
tmp_sizes_kept (step.DropOld actor (old.Tmp name)) s few a g h = sizes_move (tmps_of s.disk) s.written s.sizes name h.tmps
tmp_sizes_kept (step.DropOld actor (old.Work snapshot parts.Info)) s few a g h = h.tmps
tmp_sizes_kept (step.Manifest actor parts.Info snapshot moment bytes) s few a g h = h.tmps
tmp_sizes_kept _ s few a g h = h.tmps

-- ---- staged files

staged_kept : (p : Step) (s : Parts) → Allows p s → IsSized s → HasStaged (disk_after (op_of p) s.disk) s.opened
staged_kept (step.Place actor (moves.Written name) base cells) s a h = record { at = h.staged.at }
staged_kept (step.Place actor (moves.WrittenBulk name) base cells) s a h = record { at = h.staged.at }
staged_kept (step.Place actor (moves.StagedBulk folder name) base cells) s a h = record {
  at = λ d g m f e. cond_cases (same_bytes d folder && (same_bytes g base.family && same_bytes m name)) None (s.disk (Staged d g m)) (Some f) e (λ k i. absurd (cc)) (λ k i. h.staged.at d g m f i);
}
staged_kept (step.DropOld actor (old.Staged folder family name)) s a h = record {
  at = λ d g m f e. cond_cases (same_bytes d folder && (same_bytes g family && same_bytes m name)) None (s.disk (Staged d g m)) (Some f) e (λ k i. absurd (cc)) (λ k i. h.staged.at d g m f i);
}
staged_kept (step.DropOld actor (old.Work snapshot parts.Info)) s a h = record { at = h.staged.at }
staged_kept (step.Manifest actor parts.Info snapshot moment bytes) s a h = record { at = h.staged.at }
staged_kept _ s a h = record { at = h.staged.at }

-- ---- all

pub sized_kept : (p : Step) (s : Parts) → s.files ≤ 4_194_304 → Allows p s → IsSound s → IsSized s → IsSized (after p s)
sized_kept p s few a g h = record { files = sizes_kept p s few a g h; tmps = tmp_sizes_kept p s few a g h; staged = staged_kept p s a h }
