-- That each file that stands may stand there, and that the trees of journals stay complete.
use Rattle.std.specs.Prelude.{◌≡◌, ℕ, ◌≤◌, List, [], take, Some}
use Rattle.hb_layout.specs.declared.base.Base.{Base}
use Rattle.hb_layout.specs.Lawful.{HasEpochs, IsEpoch}
use Rattle.ns_tree.specs.declared.file.FileState.{FileState}
use Rattle.ns_tree.specs.Tree.{Tree}
use Rattle.plain_model.specs.declared.region_key.RegionKey.{RegionKey}
use Rattle.core_model.specs.declared.entry.Entry.TheVariants.{Link}
use Rattle.core_model.specs.declared.journal.JournalEntry.{JournalEntry}
use Rattle.core_model.specs.declared.opening.Opening.{Opening}
use Rattle.core_model.specs.declared.step.Step.{Step}
use Rattle.core_model.specs.Allows.{Allows, AllowsAll}
use Rattle.core_model.specs.Disk.{Disk}
use Rattle.core_model.specs.Entries.{file_of, IsEntryIn}
use Rattle.core_model.specs.Replay.{after, begun}
use Rattle.core_model.specs.Site.{Site, Epoch, Live, BackRefTo, spot_of}
use Rattle.core_model.specs.Sound.{IsSound}
use Rattle.core_model.specs.State.{Parts, State}
use Rattle.core_trees.specs.Trees.{HaveNames, trees_after}
use Rattle.core_bytes.specs.Laws.{WriteFrom}
use Rattle.core_opens.specs.Begins.{CanBegin}
use Rattle.core_opens.specs.Valid.{IsComplete}

-- files of the epoch, back references and links have no bytes
abbrev pub IsEmptyAt : Site → List ℕ → Type 0
IsEmptyAt (Epoch n) bytes = bytes ≡ []
IsEmptyAt (BackRefTo b text) bytes = bytes ≡ []
IsEmptyAt (Live x) bytes = (r : RegionKey) (b : Base) → IsEntryIn r (Link b) → file_of r (Link b) ≡ x → bytes ≡ []
IsEmptyAt _ bytes = Unit {0}

-- a file with these bytes may stand there: the epochs in its names are within their limit
pub record IsPlaced (q : Site) (bytes : List ℕ) : Type 0 where
  pub epochs : HasEpochs (spot_of q)
  pub empty : IsEmptyAt q bytes

abbrev pub ArePlaced : Disk → Type 0
ArePlaced d = (q : Site) (f : FileState) → d q ≡ Some f → IsPlaced q f.bytes

-- so does each file of a state, whose opening has an epoch within its limit
pub record IsWellPlaced (s : Parts) : Type 0 where
  pub epoch : IsEpoch s.epoch
  pub files : ArePlaced s.disk

pub record IsWellPlacedState (s : State) : Type 0 where
  pub now : IsWellPlaced s.now
  pub other : IsWellPlaced s.other

-- ---- laws

abbrev pub KeepsPlaced : Step → Parts → Type 0
KeepsPlaced p s = Allows p s → IsSound s → IsWellPlaced s → IsWellPlaced (after p s)

-- after each front of a journal of allowed entries that write what they say, the trees are complete: each obeys the rules of a
-- valid tree but those on what fits together
abbrev pub StaysComplete : Opening → Tree → List JournalEntry → ℕ → Type 0
StaysComplete o tree es k =
    CanBegin o tree → IsEpoch o.epoch → HaveNames es → AllowsAll o es → WriteFrom 0 (begun o) es
    → IsComplete (trees_after tree (take k es)).now × IsComplete (trees_after tree (take k es)).other
