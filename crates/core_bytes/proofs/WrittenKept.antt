-- Each step keeps that files are what they were written of.
use Rattle.std.proofs.Common.{◌≡◌, ℕ, ◌≤◌, true, cond, List, Option, Some, None, sym, ap, ◌∙◌, subst}
use Rattle.hb_cell.specs.declared.cell.Cell.{Cell}
use Rattle.hb_cell.specs.Order.{same_bytes}
use Rattle.hb_layout.specs.declared.base.Base.{Base}
use Rattle.hfile_form.specs.File.{IsHFile}
use Rattle.ns_tree.specs.declared.file.FileState.{FileState}
use Rattle.core_model.specs.declared.recipe.Recipe.{Recipe}
use Rattle.core_model.specs.declared.recipe.Recipe.TheVariants as recipes
use Rattle.core_model.specs.declared.targets.ManifestPart.TheVariants as parts
use Rattle.core_model.specs.declared.targets.MoveFrom.TheVariants as moves
use Rattle.core_model.specs.declared.targets.OldFile.TheVariants as old
use Rattle.core_model.specs.declared.step.Step.{Step}
use Rattle.core_model.specs.declared.step.Step.TheVariants as step
use Rattle.core_model.specs.Allows.{Allows}
use Rattle.core_model.specs.Disk.{disk_after, tmps_of, live_of, archived_of}
use Rattle.core_model.specs.Entries.{Made, stem}
use Rattle.core_model.specs.FileChanges.{made_by, made_with, written_by}
use Rattle.core_model.specs.FileGuards.{IsFor, IsPieceRecipe, Wrote}
use Rattle.core_model.specs.Keys.{same_base, set_name}
use Rattle.core_model.specs.Ops.{op_of}
use Rattle.core_model.specs.Replay.{after}
use Rattle.core_model.specs.Site.{Tmp}
use Rattle.core_model.specs.Sound.{IsSound}
use Rattle.core_model.specs.State.{Parts, Written}
use Rattle.core_sound.proofs.FilesKept.{PlacedAt, OfLive, live_each, archived_each}
use Rattle.core_sound.proofs.NamesKept.{placed_stem, piece_stem}
use Rattle.core_sound.proofs.Tests.{cond_cases, same_bytes-true, same_bytes-self, same_base-self}
use Rattle.core_bytes.specs.FileOf.{GivesCells, IsFileOf}
use Rattle.core_bytes.specs.Written.{Writes, WritesFile, MovesFile, IsMade, HasFiles, HasTmps, IsTied, IsWritten}
use Rattle.core_bytes.proofs.ListsStored.{lists_stored}
use Rattle.core_bytes.proofs.SetsStored.{sets_stored, tables_agree}
use Rattle.core_bytes.proofs.ManifestsKept.{manifests_kept}
use Rattle.core_bytes.proofs.PartsKept.{parts_kept}
use Rattle.core_bytes.proofs.ReferencesKept.{references_kept}
use Rattle.core_bytes.proofs.Drawn.{made_stays, digits_drawn}

abbrev Tmps : Type 0
Tmps = List ℕ → Option FileState

some_is : {A : Type 0} {x y : A} → Some x ≡ Some y → x ≡ y
some_is e = (cc)

-- ---- cells

for_gives : (recipe : Recipe) (b : Base) → IsFor recipe b → GivesCells recipe
for_gives (recipes.Frozen r family) b i = tt
for_gives (recipes.Merge r inputs major) b i = tt
for_gives (recipes.Piece source start end) b i = absurd i
for_gives (recipes.List r list) b i = absurd i
for_gives (recipes.Set table set) b i = absurd i

piece_gives : (recipe : Recipe) → IsPieceRecipe recipe → GivesCells recipe
piece_gives (recipes.Piece source start end) i = tt
piece_gives _ i = absurd i

gives_hfile : (recipe : Recipe) (cells : List Cell) (bytes : List ℕ) → GivesCells recipe → IsFileOf recipe cells bytes → IsHFile bytes cells
gives_hfile (recipes.Frozen r family) cells bytes g i = i
gives_hfile (recipes.Merge r inputs major) cells bytes g i = i
gives_hfile (recipes.Piece source start end) cells bytes g i = i
gives_hfile (recipes.List r list) cells bytes g i = absurd g
gives_hfile (recipes.Set table set) cells bytes g i = absurd g

-- a file that is placed under the digits that it was written with
tmp_made : (s : Parts) (actor : ℕ) (name : List ℕ) (recipe : Recipe) → IsWritten s → (w : Wrote actor name recipe s.disk s.written) → GivesCells recipe → (b : Base) (f : FileState) → stem b.name ≡ name → s.disk (Tmp name) ≡ Some f → IsMade (s.made b) f.bytes
tmp_made s actor name recipe h w g b f d e = record {
  cells = w.cells;
  are = h.tied.at name _ w.known g b (ap (λ x. same_bytes x name) d ∙ same_bytes-self name);
  file = gives_hfile recipe w.cells f.bytes g (h.tmps.at name f _ e w.known);
}

placed_made : (p : Step) (s : Parts) → Allows p s → MovesFile p s.disk → IsSound s → IsWritten s → (b : Base) (f : FileState) → PlacedAt p s b f → IsMade (made_by p s.made b) f.bytes
placed_made (step.Place actor (moves.Written name) base cells) s a m g h b f z =
    tmp_made s actor.0 name a.moved.recipe h a.moved.wrote (for_gives a.moved.recipe base a.moved.fits) b f (placed_stem s actor.0 name base b g cells a z.0) z.1
placed_made (step.Place actor (moves.WrittenBulk name) base cells) s a m g h b f z =
    tmp_made s actor.0 name a.moved.recipe h a.moved.wrote (piece_gives a.moved.recipe a.moved.piece) b f (piece_stem s actor.0 name base b g cells a z.0) z.1
placed_made (step.Place actor (moves.StagedBulk folder name) base cells) s a m g h b f z = record {
  cells = cells;
  are = ap (λ x. cond x (Some cells) (s.made b)) (ap (λ x. same_base x base) z.0 ∙ same_base-self base);
  file = m f z.1;
}
placed_made _ s a m g h b f z = absurd z

files_kept : (p : Step) (s : Parts) → s.files ≤ 4_194_304 → Allows p s → MovesFile p s.disk → IsSound s → IsWritten s → HasFiles (live_of (disk_after (op_of p) s.disk)) (archived_of (disk_after (op_of p) s.disk)) (made_by p s.made)
files_kept p s few a m g h = record {
  live_made = live_each HasMade p s a stays (placed_made p s a m g h);
  archived_made = archived_each HasMade p s a (λ b f e. subst (λ k. IsMade k f.bytes) (sym (made_stays p s few a b (g.names.archived_file b f e))) (h.files.archived_made b f e)) stays;
}
  where
    HasMade : Base → List ℕ → Type 0
    HasMade b bytes = IsMade (made_by p s.made b) bytes

    stays : OfLive HasMade (live_of s.disk)
    stays b f e o = subst (λ k. IsMade k f.bytes) (sym (made_stays p s few a b (g.names.live_file b f e o))) (h.files.live_made b f e o)

-- ---- temporary files

tmps_write : (tmps : Tmps) (written : List ℕ → Option Written) (n : List ℕ) (w : Written) (f : FileState) → IsFileOf w.recipe w.cells f.bytes → HasTmps tmps written → HasTmps (λ m. cond (same_bytes m n) (Some f) (tmps m)) (set_name n (Some w) written)
tmps_write tmps written n w f a h = record {
  at = λ m g v e k. cond_cases (same_bytes m n) (Some f) (tmps m) (Some g) e
      (λ d i. let j : Some w ≡ Some v = sym (ap (λ b. cond b (Some w) (written m)) d) ∙ k in let x : f ≡ g = (cc) in let y : w ≡ v = (cc) in subst (λ (q : FileState). IsFileOf v.recipe v.cells q.bytes) x (subst (λ (u : Written). IsFileOf u.recipe u.cells f.bytes) y a))
      (λ d i. h.at m g v i (sym (ap (λ b. cond b (Some w) (written m)) d) ∙ k));
}

tmps_move : (tmps : Tmps) (written : List ℕ → Option Written) (n : List ℕ) → HasTmps tmps written → HasTmps (λ m. cond (same_bytes m n) None (tmps m)) written
tmps_move tmps written n h = record { at = λ m g v e k. cond_cases (same_bytes m n) None (tmps m) (Some g) e (λ d i. absurd (cc)) (λ d i. h.at m g v i k) }

tmps_kept : (p : Step) (s : Parts) → Allows p s → WritesFile p → IsWritten s → HasTmps (tmps_of (disk_after (op_of p) s.disk)) (written_by p s.written)
tmps_kept (step.WriteTmp actor recipe name cells bytes) s a w h = tmps_write (tmps_of s.disk) s.written name (record { by = actor.0; recipe = recipe; cells = cells }) (record { bytes = bytes; moment = 0 }) w h.tmps
tmps_kept (step.Place actor (moves.Written name) base cells) s a w h = tmps_move (tmps_of s.disk) s.written name h.tmps
tmps_kept (step.Place actor (moves.WrittenBulk name) base cells) s a w h = tmps_move (tmps_of s.disk) s.written name h.tmps
tmps_kept (step.CommitList actor region number name why list cells planned) s a w h = tmps_move (tmps_of s.disk) s.written name h.tmps
tmps_kept (step.CommitRegions actor table number name set change) s a w h = tmps_move (tmps_of s.disk) s.written name h.tmps
tmps_kept (step.DropOld actor (old.Tmp name)) s a w h = tmps_move (tmps_of s.disk) s.written name h.tmps
tmps_kept (step.DropOld actor (old.Work snapshot parts.Info)) s a w h = h.tmps
tmps_kept (step.Manifest actor parts.Info snapshot moment bytes) s a w h = h.tmps
tmps_kept _ s a w h = h.tmps

-- ---- names and cells

tied_write : (written : List ℕ → Option Written) (made : Made) (n : List ℕ) (w : Written) → IsTied written made → IsTied (set_name n (Some w) written) (made_with n w.cells made)
tied_write written made n w h = record {
  at = λ m v e g b i. cond_cases (same_bytes m n) (Some w) (written m) (Some v) e
      (λ d k. let j : (same_bytes (stem b.name) n) ≡ true = ap (λ x. same_bytes x n) (same_bytes-true (stem b.name) m i) ∙ d in let r : w ≡ v = (cc) in
      ap (λ x. cond x (Some w.cells) (made b)) j ∙ ap (λ (u : Written). Some u.cells) r)
      (λ d k. ap (λ x. cond x (Some w.cells) (made b)) (ap (λ x. same_bytes x n) (same_bytes-true (stem b.name) m i) ∙ d) ∙ h.at m v k g b i);
}

tied_other : (written : List ℕ → Option Written) (made : Made) (n : List ℕ) (w : Written) → (GivesCells w.recipe → ⊥) → IsTied written made → IsTied (set_name n (Some w) written) made
tied_other written made n w z h = record {
  at = λ m v e g b i. cond_cases (same_bytes m n) (Some w) (written m) (Some v) e
      (λ d k. let r : v ≡ w = (cc) in absurd (z (subst (λ (u : Written). GivesCells u.recipe) r g)))
      (λ d k. h.at m v k g b i);
}

tied_kept : (p : Step) (s : Parts) → s.files ≤ 4_194_304 → Allows p s → IsSound s → IsWritten s → IsTied (written_by p s.written) (made_by p s.made)
tied_kept (step.WriteTmp actor (recipes.Frozen region family) name cells bytes) s few a g h = tied_write s.written s.made name (record { by = actor.0; recipe = recipes.Frozen region family; cells = cells }) h.tied
tied_kept (step.WriteTmp actor (recipes.Merge region inputs major) name cells bytes) s few a g h = tied_write s.written s.made name (record { by = actor.0; recipe = recipes.Merge region inputs major; cells = cells }) h.tied
tied_kept (step.WriteTmp actor (recipes.Piece source start end) name cells bytes) s few a g h = tied_write s.written s.made name (record { by = actor.0; recipe = recipes.Piece source start end; cells = cells }) h.tied
tied_kept (step.WriteTmp actor (recipes.List region list) name cells bytes) s few a g h = tied_other s.written s.made name (record { by = actor.0; recipe = recipes.List region list; cells = cells }) (λ k. k) h.tied
tied_kept (step.WriteTmp actor (recipes.Set table set) name cells bytes) s few a g h = tied_other s.written s.made name (record { by = actor.0; recipe = recipes.Set table set; cells = cells }) (λ k. k) h.tied
tied_kept (step.Place actor (moves.StagedBulk folder name) base cells) s few a g h = record {
  at = λ m w e k b i. made_stays (step.Place actor (moves.StagedBulk folder name) base cells) s few a b (digits_drawn s m w g e b (same_bytes-true (stem b.name) m i)) ∙ h.tied.at m w e k b i;
}
tied_kept _ s few a g h = h.tied

-- ---- all

pub written_kept : (p : Step) (s : Parts) → s.files ≤ 4_194_304 → Allows p s → Writes p s → IsSound s → IsWritten s → IsWritten (after p s)
written_kept p s few a w g h = record {
  files = files_kept p s few a w.moved g h;
  tmps = tmps_kept p s a w.file h;
  tied = tied_kept p s few a g h;
  references = references_kept p s a w.file h.references;
  parts = parts_kept p s a w.part g h.parts;
  manifests = manifests_kept p s a h;
  lists = lists_stored p s a h.tmps h.lists;
  sets = sets_stored p s a h.tmps h.sets;
  tables = tables_agree p s a h.tables;
}
