-- Each step keeps that names were drawn before the next one, and that no base stands twice.
use Rattle.std.proofs.Common.{◌≡◌, ℕ, ◌+◌, ◌≤◌, true, false, cond, List, Option, Some, None, refl, sym, ap, ◌∙◌, arith}
use Rattle.hb_cell.specs.declared.cell.Cell.{Cell}
use Rattle.hb_layout.specs.declared.base.Base.{Base}
use Rattle.core_model.specs.Site.{Tmp}
use Rattle.ns_tree.specs.declared.file.FileState.{FileState}
use Rattle.plain_model.specs.declared.region_key.RegionKey.{RegionKey}
use Rattle.hb_cell.specs.Order.{same_bytes}
use Rattle.core_model.specs.declared.entry.Entry.{Entry}
use Rattle.core_model.specs.declared.entry.Entry.TheVariants as entries
use Rattle.core_model.specs.declared.recipe.Recipe.TheVariants as recipes
use Rattle.core_model.specs.declared.targets.ManifestPart.TheVariants as parts
use Rattle.core_model.specs.declared.targets.MoveFrom.TheVariants as moves
use Rattle.core_model.specs.declared.targets.OldFile.TheVariants as old
use Rattle.core_model.specs.declared.step.Step.{Step}
use Rattle.core_model.specs.declared.step.Step.TheVariants as step
use Rattle.core_model.specs.Allows.{Allows}
use Rattle.core_model.specs.Disk.{disk_after, tmps_of, live_of, archived_of}
use Rattle.core_model.specs.Entries.{file_of, is_own, stem}
use Rattle.core_model.specs.FileChanges.{files_by, made_by, made_with, written_by}
use Rattle.core_model.specs.FileFacts.{NamesAreDrawn, HasOnePlace, IsDrawn}
use Rattle.core_model.specs.Site.{is_store_name}
use Rattle.core_model.specs.FileGuards.{next_name}
use Rattle.core_model.specs.Keys.{same_base, home}
use Rattle.core_sound.proofs.NameFacts.{store_name, drawn_digits}
use Rattle.core_model.specs.Ops.{op_of}
use Rattle.core_model.specs.Sound.{IsSound}
use Rattle.core_model.specs.State.{Parts, Written}
use Rattle.core_model.specs.TmpFacts.{TmpsApart}
use Rattle.core_sound.proofs.Draws.{other_names, other_digits, stem_suffixed}
use Rattle.core_sound.proofs.FilesKept.{PlacedAt, OfLive, live_each, archived_each, written_stem}
use Rattle.core_sound.proofs.NeverAgain.{not_store, half_not_own}
use Rattle.core_sound.proofs.Tests.{cond_cases, same_bytes-true, same_bytes-self, same_base-true}

-- ---- names grow

grown : (epoch files : ℕ) (name : List ℕ) → IsDrawn epoch files name → IsDrawn epoch (files + 1) name
grown epoch files name d = record { not_again = λ k u v e. d.not_again k (grind (arith, u)) v e }

pub drawn_after : (p : Step) (s : Parts) → s.files ≤ 4_194_304 → (name : List ℕ) → IsDrawn s.epoch s.files name → IsDrawn s.epoch (files_by p s.files) name
drawn_after (step.WriteTmp actor recipe name cells bytes) s few n d = grown s.epoch s.files n d
drawn_after (step.Place actor (moves.StagedBulk folder name) base cells) s few n d = grown s.epoch s.files n d
drawn_after _ s few n d = d

-- the next name is drawn by its step
new_drawn : (s : Parts) (name : List ℕ) → s.files ≤ 4_194_304 → stem name ≡ next_name s.epoch s.files None → IsDrawn s.epoch (s.files + 1) name
new_drawn s name few e = record { not_again = λ k u v i. other_names s.epoch s.files k few v (grind (arith, u)) (sym e ∙ i) }

pub next_stem : (s : Parts) (name : List ℕ) → name ≡ next_name s.epoch s.files None → stem name ≡ next_name s.epoch s.files None
next_stem s name e = ap stem e ∙ drawn_digits s.epoch s.files None

-- a placed base has the digits of a written name
pub placed_stem : (s : Parts) (actor : ℕ) (name : List ℕ) (base : Base) (b : Base) → IsSound s → (cells : List Cell)
    → Allows (step.Place (record { 0 = actor }) (moves.Written name) base cells) s → b ≡ base → stem b.name ≡ name
placed_stem s actor name base b h cells a e = ap (λ (x : Base). stem x.name) e ∙ ap stem a.moved.named ∙ written_stem s actor name a.moved.recipe h a.moved.wrote

pub piece_stem : (s : Parts) (actor : ℕ) (name : List ℕ) (base : Base) (b : Base) → IsSound s → (cells : List Cell)
    → Allows (step.Place (record { 0 = actor }) (moves.WrittenBulk name) base cells) s → b ≡ base → stem b.name ≡ name
piece_stem s actor name base b h cells a e = let k = h.known_tmps.at name _ a.moved.wrote.known in
    ap (λ (x : Base). stem x.name) e ∙ ap stem a.moved.named ∙ stem_suffixed s.epoch k.0 name (Some (s.plain.seq (home base) + 1)) k.1

pub staged_stem : (s : Parts) (base b : Base) (n : ℕ) → base.name ≡ next_name s.epoch s.files (Some n) → b ≡ base → stem b.name ≡ next_name s.epoch s.files None
staged_stem s base b n i e = ap (λ (x : Base). stem x.name) e ∙ ap stem i ∙ drawn_digits s.epoch s.files (Some n)

-- the name of a base with a written name's digits is drawn
as_written : (s : Parts) (name : List ℕ) (w : Written) (b : Base) → IsSound s → s.written name ≡ Some w → stem name ≡ name → stem b.name ≡ name → IsDrawn s.epoch s.files b.name
as_written s name w b h e i j = record { not_again = λ k u v d. (h.names.recipe name w e).not_again k u v (i ∙ sym j ∙ d) }

placed_drawn : (p : Step) (s : Parts) → Allows p s → IsSound s → s.files ≤ 4_194_304 → (b : Base) (f : FileState) → PlacedAt p s b f → IsDrawn s.epoch (files_by p s.files) b.name
placed_drawn (step.Place actor (moves.Written name) base cells) s a h few b f z =
    as_written s name _ b h a.moved.wrote.known (written_stem s actor.0 name a.moved.recipe h a.moved.wrote) (placed_stem s actor.0 name base b h cells a z.0)
placed_drawn (step.Place actor (moves.WrittenBulk name) base cells) s a h few b f z =
    as_written s name _ b h a.moved.wrote.known (written_stem s actor.0 name a.moved.recipe h a.moved.wrote) (piece_stem s actor.0 name base b h cells a z.0)
placed_drawn (step.Place actor (moves.StagedBulk folder name) base cells) s a h few b f z = new_drawn s b.name few (staged_stem s base b _ a.moved.named z.0)
placed_drawn _ s a h few b f z = absurd z

-- ---- temporary files by what becomes of them

-- a temporary file that a step writes; one that it leaves
abbrev pub IsNewTmp : Step → List ℕ → Type 0
IsNewTmp (step.WriteTmp actor recipe name cells bytes) m = m ≡ name
IsNewTmp _ m = ⊥

abbrev pub IsLeft : Step → List ℕ → Type 0
IsLeft (step.Place actor (moves.Written name) base cells) m = same_bytes m name ≡ false
IsLeft (step.Place actor (moves.WrittenBulk name) base cells) m = same_bytes m name ≡ false
IsLeft _ m = Unit {0}

pub tmp_cases : {P : Type 0} (p : Step) (s : Parts) (m : List ℕ) (f : FileState) → tmps_of (disk_after (op_of p) s.disk) m ≡ Some f → (IsNewTmp p m → P) → (tmps_of s.disk m ≡ Some f → IsLeft p m → P) → P
tmp_cases (step.WriteTmp actor recipe name cells bytes) s m f e x y = cond_cases (same_bytes m name) (Some (record { bytes = bytes; moment = 0 })) (tmps_of s.disk m) (Some f) e (λ d i. x (same_bytes-true m name d)) (λ d i. y i tt)
tmp_cases (step.Place actor (moves.Written name) base cells) s m f e x y = cond_cases (same_bytes m name) None (tmps_of s.disk m) (Some f) e (λ d i. absurd (cc)) (λ d i. y i d)
tmp_cases (step.Place actor (moves.WrittenBulk name) base cells) s m f e x y = cond_cases (same_bytes m name) None (tmps_of s.disk m) (Some f) e (λ d i. absurd (cc)) (λ d i. y i d)
tmp_cases (step.Place actor (moves.StagedBulk folder name) base cells) s m f e x y = y e tt
tmp_cases (step.CommitList actor region number name why list cells planned) s m f e x y = cond_cases (same_bytes m name) None (tmps_of s.disk m) (Some f) e (λ d i. absurd (cc)) (λ d i. y i tt)
tmp_cases (step.CommitRegions actor table number name set change) s m f e x y = cond_cases (same_bytes m name) None (tmps_of s.disk m) (Some f) e (λ d i. absurd (cc)) (λ d i. y i tt)
tmp_cases (step.DropOld actor (old.Tmp name)) s m f e x y = cond_cases (same_bytes m name) None (tmps_of s.disk m) (Some f) e (λ d i. absurd (cc)) (λ d i. y i tt)
tmp_cases (step.DropOld actor (old.Work snapshot parts.Info)) s m f e x y = y e tt
tmp_cases (step.Manifest actor parts.Info snapshot moment bytes) s m f e x y = y e tt
tmp_cases _ s m f e x y = y e tt

-- ---- all names

new_tmp : (p : Step) (s : Parts) → Allows p s → s.files ≤ 4_194_304 → (m : List ℕ) → IsNewTmp p m → IsDrawn s.epoch (files_by p s.files) m
new_tmp (step.WriteTmp actor recipe name cells bytes) s a few m i = new_drawn s m few (next_stem s m (i ∙ a.new))
new_tmp _ s a few m i = absurd i

made_drawn : (s : Parts) (name : List ℕ) (cells cs : List Cell) (b : Base) → s.files ≤ 4_194_304 → name ≡ next_name s.epoch s.files None → IsSound s → made_with name cells s.made b ≡ Some cs → is_store_name b.name ≡ true → IsDrawn s.epoch (s.files + 1) b.name
made_drawn s name cells cs b few n h e o = cond_cases (same_bytes (stem b.name) name) (Some cells) (s.made b) (Some cs) e
    (λ d i. new_drawn s b.name few (same_bytes-true (stem b.name) name d ∙ n))
    (λ d i. grown s.epoch s.files b.name (h.names.known b cs i o))

known_drawn : (p : Step) (s : Parts) → Allows p s → IsSound s → s.files ≤ 4_194_304 → (b : Base) (cs : List Cell) → made_by p s.made b ≡ Some cs → is_store_name b.name ≡ true → IsDrawn s.epoch (files_by p s.files) b.name
known_drawn (step.WriteTmp actor (recipes.Frozen region family) name cells bytes) s a h few b cs e o = made_drawn s name cells cs b few a.new h e o
known_drawn (step.WriteTmp actor (recipes.Merge region inputs major) name cells bytes) s a h few b cs e o = made_drawn s name cells cs b few a.new h e o
known_drawn (step.WriteTmp actor (recipes.Piece source start end) name cells bytes) s a h few b cs e o = made_drawn s name cells cs b few a.new h e o
known_drawn (step.WriteTmp actor (recipes.List region list) name cells bytes) s a h few b cs e o = grown s.epoch s.files b.name (h.names.known b cs e o)
known_drawn (step.WriteTmp actor (recipes.Set table set) name cells bytes) s a h few b cs e o = grown s.epoch s.files b.name (h.names.known b cs e o)
known_drawn (step.Place actor (moves.StagedBulk folder name) base cells) s a h few b cs e o = cond_cases (same_base b base) (Some cells) (s.made b) (Some cs) e
    (λ d i. new_drawn s b.name few (staged_stem s base b _ a.moved.named (same_base-true b base d)))
    (λ d i. grown s.epoch s.files b.name (h.names.known b cs i o))
known_drawn _ s a h few b cs e o = h.names.known b cs e o

recipe_drawn : (p : Step) (s : Parts) → Allows p s → IsSound s → s.files ≤ 4_194_304 → (m : List ℕ) (w : Written) → written_by p s.written m ≡ Some w → IsDrawn s.epoch (files_by p s.files) m
recipe_drawn (step.WriteTmp actor recipe name cells bytes) s a h few m w e = cond_cases (same_bytes m name) (Some (record { by = actor.0; recipe = recipe; cells = cells })) (s.written m) (Some w) e
    (λ d i. new_drawn s m few (next_stem s m (same_bytes-true m name d ∙ a.new)))
    (λ d i. grown s.epoch s.files m (h.names.recipe m w i))
recipe_drawn (step.Place actor (moves.StagedBulk folder name) base cells) s a h few m w e = grown s.epoch s.files m (h.names.recipe m w e)
recipe_drawn _ s a h few m w e = h.names.recipe m w e

pub names_kept : (p : Step) (s : Parts) → Allows p s → IsSound s → s.files ≤ 4_194_304
    → NamesAreDrawn s.epoch (files_by p s.files) (tmps_of (disk_after (op_of p) s.disk)) (live_of (disk_after (op_of p) s.disk)) (archived_of (disk_after (op_of p) s.disk)) (made_by p s.made) (written_by p s.written)
names_kept p s a h few = record {
  tmp = λ m f e. tmp_cases p s m f e (new_tmp p s a few m) (λ i l. drawn_after p s few m (h.names.tmp m f i));
  live_file = live_each Drawn p s a stays (placed_drawn p s a h few);
  archived_file = archived_each Drawn p s a (λ b f e. drawn_after p s few b.name (h.names.archived_file b f e)) stays;
  known = known_drawn p s a h few;
  recipe = recipe_drawn p s a h few;
}
  where
    Drawn : Base → List ℕ → Type 0
    Drawn b bytes = IsDrawn s.epoch (files_by p s.files) b.name

    stays : OfLive Drawn (live_of s.disk)
    stays b f e o = drawn_after p s few b.name (h.names.live_file b f e o)

-- ---- temporary files have digits of their own

new_other : (p : Step) (s : Parts) → Allows p s → s.files ≤ 4_194_304 → (m : List ℕ) → IsNewTmp p m → (name : List ℕ) → IsDrawn s.epoch s.files name → stem name ≡ m → ⊥
new_other (step.WriteTmp actor recipe n cells bytes) s a few m i name d e = other_digits s.epoch s.files name few d (e ∙ i ∙ a.new)
new_other _ s a few m i name d e = absurd i

new_unplaced : {X : Type 0} (p : Step) (s : Parts) (m : List ℕ) (b : Base) (f : FileState) → IsNewTmp p m → PlacedAt p s b f → X
new_unplaced (step.WriteTmp actor recipe n cells bytes) s m b f i z = absurd z
new_unplaced _ s m b f i z = absurd i

differ : (m name : List ℕ) (b : Base) → same_bytes m name ≡ false → stem b.name ≡ name → stem b.name ≡ m → ⊥
differ m name b d i j = let z : true ≡ false = sym (same_bytes-self m) ∙ ap (same_bytes m) (sym j ∙ i) ∙ d in absurd (cc)

left_other : (p : Step) (s : Parts) → Allows p s → s.files ≤ 4_194_304 → IsSound s → (m : List ℕ) (f : FileState) → tmps_of s.disk m ≡ Some f → IsLeft p m → (b : Base) (g : FileState) → PlacedAt p s b g → stem b.name ≡ m → ⊥
left_other (step.Place actor (moves.Written name) base cells) s a few h m f e l b g z i = differ m name b l (placed_stem s actor.0 name base b h cells a z.0) i
left_other (step.Place actor (moves.WrittenBulk name) base cells) s a few h m f e l b g z i = differ m name b l (piece_stem s actor.0 name base b h cells a z.0) i
left_other (step.Place actor (moves.StagedBulk folder name) base cells) s a few h m f e l b g z i =
    let j : m ≡ next_name s.epoch s.files None = sym i ∙ staged_stem s base b _ a.moved.named z.0 in
    other_digits s.epoch s.files m few (h.names.tmp m f e) (next_stem s m j)
left_other _ s a few h m f e l b g z i = absurd z

pub tmps_apart_kept : (p : Step) (s : Parts) → Allows p s → s.files ≤ 4_194_304 → IsSound s
    → TmpsApart (tmps_of (disk_after (op_of p) s.disk)) (live_of (disk_after (op_of p) s.disk)) (archived_of (disk_after (op_of p) s.disk))
tmps_apart_kept p s a few h = record {
  from_live = λ m f e. tmp_cases p s m f e
      (λ i. live_each (Apart m) p s a (λ b g k o. new_other p s a few m i b.name (h.names.live_file b g k o)) (λ b g z. new_unplaced p s m b g i z))
      (λ i l. live_each (Apart m) p s a (h.tmps_apart.from_live m f i) (left_other p s a few h m f i l));
  from_archived = λ m f e. tmp_cases p s m f e
      (λ i. archived_each (Apart m) p s a (λ b g k. new_other p s a few m i b.name (h.names.archived_file b g k)) (λ b g k o. new_other p s a few m i b.name (h.names.live_file b g k o)))
      (λ i l. archived_each (Apart m) p s a (h.tmps_apart.from_archived m f i) (h.tmps_apart.from_live m f i));
}
  where
    Apart : List ℕ → Base → List ℕ → Type 0
    Apart m b bytes = stem b.name ≡ m → ⊥

-- ---- one place

placed_alone : (s : Parts) (base : Base) (o : Option FileState) → IsSound s → ((b : Base) (g : FileState) → b ≡ base → archived_of s.disk b ≡ Some g → ⊥) → (b : Base) (f g : FileState)
    → cond (same_base b base) o (live_of s.disk b) ≡ Some f → archived_of s.disk b ≡ Some g → ⊥
placed_alone s base o h k b f g e i = cond_cases (same_base b base) o (live_of s.disk b) (Some f) e (λ d j. k b g (same_base-true b base d) i) (λ d j. h.one_place.at b f g j i)

-- no link or half is archived
not_archived : (s : Parts) (r : RegionKey) (e : Entry) → is_own e ≡ false → IsSound s → (b : Base) (g : FileState) → b ≡ file_of r e → archived_of s.disk b ≡ Some g → ⊥
not_archived s r e w h b g i k = let z : true ≡ false = sym (store_name b.name (h.archived_lawful.at b g k).file) ∙ ap (λ (x : Base). is_store_name x.name) i ∙ not_store e w in absurd (cc)

pub one_place_kept : (p : Step) (s : Parts) → Allows p s → s.files ≤ 4_194_304 → IsSound s → HasOnePlace (live_of (disk_after (op_of p) s.disk)) (archived_of (disk_after (op_of p) s.disk))
one_place_kept (step.Place actor (moves.Written name) base cells) s a few h = record {
  at = placed_alone s base (s.disk (Tmp name)) h (λ b g i k. h.tmps_apart.from_archived name _ a.moved.wrote.stands b g k (placed_stem s actor.0 name base b h cells a i));
}
one_place_kept (step.Place actor (moves.WrittenBulk name) base cells) s a few h = record {
  at = placed_alone s base (s.disk (Tmp name)) h (λ b g i k. h.tmps_apart.from_archived name _ a.moved.wrote.stands b g k (piece_stem s actor.0 name base b h cells a i));
}
one_place_kept (step.Place actor (moves.StagedBulk folder name) base cells) s a few h = record {
  at = placed_alone s base _ h (λ b g i k. other_digits s.epoch s.files b.name few (h.names.archived_file b g k) (staged_stem s base b _ a.moved.named i));
}
one_place_kept (step.Stamp actor base moment) s a few h = record {
  at = placed_alone s base _ h (λ b g i k. h.one_place.at b a.file g (ap (live_of s.disk) i ∙ a.stands) k);
}
one_place_kept (step.Archive actor base) s a few h = record {
  at = λ b f g e i. cond_cases (same_base b base) None (live_of s.disk b) (Some f) e (λ d j. absurd (cc))
      (λ d j. h.one_place.at b f g j (sym (ap (λ x. cond x (live_of s.disk base) (archived_of s.disk b)) d) ∙ i));
}
one_place_kept (step.Link actor base region) s a few h = record { at = placed_alone s (file_of region (entries.Link base)) _ h (not_archived s region (entries.Link base) refl h) }
one_place_kept (step.Half actor entry region bytes) s a few h = record { at = placed_alone s (file_of region entry) _ h (not_archived s region entry (half_not_own entry a.half) h) }
one_place_kept (step.Unlink actor entry region) s a few h = record {
  at = λ b f g e i. cond_cases (same_base b (file_of region entry)) None (live_of s.disk b) (Some f) e (λ d j. absurd (cc)) (λ d j. h.one_place.at b f g j i);
}
one_place_kept (step.DeleteArchived actor base) s a few h = record {
  at = λ b f g e i. cond_cases (same_base b base) None (archived_of s.disk b) (Some g) i (λ d j. absurd (cc)) (λ d j. h.one_place.at b f g e j);
}
one_place_kept (step.DropOld actor (old.Work snapshot parts.Info)) s a few h = record { at = h.one_place.at }
one_place_kept (step.Manifest actor parts.Info snapshot moment bytes) s a few h = record { at = h.one_place.at }
one_place_kept _ s a few h = record { at = h.one_place.at }

-- ---- how many names are drawn
