-- A journal of allowed entries that loads files of two families.
use Rattle.std.specs.Prelude.{◌≡◌, ℕ, List, [], ◌∷◌, codes, Some, None}
use Rattle.std.specs.FinMap.{empty, insert}
use Rattle.hb_cell.specs.declared.cell.Cell.{Cell}
use Rattle.hb_cell.specs.declared.kind.Kind.TheVariants as kinds
use Rattle.hb_layout.specs.declared.base.Base.{Base}
use Rattle.ns_tree.specs.declared.file.FileState.{FileState}
use Rattle.ns_tree.specs.Tree.{Tree}
use Rattle.plain_model.specs.declared.region_key.RegionKey.{RegionKey}
use Rattle.core_model.specs.declared.entry.Entry.TheVariants.{Own}
use Rattle.core_model.specs.declared.journal.JournalEntry.{JournalEntry}
use Rattle.core_model.specs.declared.opening.Opening.{Opening}
use Rattle.core_model.specs.Actors.{IsRegion}
use Rattle.core_model.specs.Allows.{AllowsAll}
use Rattle.core_model.specs.Entries.{cells_in}
use Rattle.core_model.specs.Opened.{opened}
use Rattle.core_model.specs.Replay.{replay}
use Rattle.core_model.specs.Site.{Site, Staged, site_text}
use Rattle.core_model.specs.Sound.{IsSound}
use Rattle.core_model.specs.State.{Parts}

-- a cell of a family, with this sequence number
abbrev pub cell_of : List ℕ → ℕ → Cell
cell_of family seq = record { row = codes "r"; family = family; qualifier = codes "q"; ts = 5; kind = kinds.Put; seq = seq; value = codes "v" }

-- where the file of a family waits
abbrev pub waits_at : List ℕ → Site
waits_at family = Staged (codes "d") family (codes "x")

abbrev pub empty_file : FileState
empty_file = record { bytes = []; moment = 0 }

-- the store has the two files that wait, and no other
abbrev pub waiting_tree : Tree
waiting_tree = insert (insert empty (site_text (waits_at (codes "f"))) empty_file) (site_text (waits_at (codes "g"))) empty_file

-- its opening, which finds a cell in each
abbrev pub waiting_opening : ℕ → Opening
waiting_opening ttl = record {
  epoch = 1;
  ttl = ttl;
  tree = Some waiting_tree;
  found = record {
    places = site_text (waits_at (codes "f")) ∷ site_text (waits_at (codes "g")) ∷ [];
    cells = (site_text (waits_at (codes "f")), cell_of (codes "f") 0 ∷ []) ∷ (site_text (waits_at (codes "g")), cell_of (codes "g") 0 ∷ []) ∷ [];
    lists = [];
    sets = [];
    snapshots = [];
  };
}

-- in this state a region's list has a file of each family, with the cells of both and the numbers that were drawn for the
-- files, and so has the plain machine; neither file waits
pub record HasLoaded (s : Parts) : Type 0 where
  pub region : RegionKey
  pub there : IsRegion s.plain.tables region
  pub first : Base
  pub of_first : first.family ≡ codes "f"
  pub second : Base
  pub of_second : second.family ≡ codes "g"
  pub listed : (s.lists region).entries ≡ Own first ∷ Own second ∷ []
  pub cells : cells_in s.made (s.lists region).entries ≡ cell_of (codes "f") 1 ∷ cell_of (codes "g") 2 ∷ []
  pub plain : s.plain.stable region ≡ cell_of (codes "f") 1 ∷ cell_of (codes "g") 2 ∷ []
  pub first_moved : s.disk (waits_at (codes "f")) ≡ None
  pub second_moved : s.disk (waits_at (codes "g")) ≡ None

-- the opening begins sound, and a journal of allowed entries leads there
pub record LoadIsMet (ttl : ℕ) : Type 0 where
  pub sound : IsSound (opened (waiting_opening ttl))
  pub entries : List JournalEntry
  pub allowed : AllowsAll (waiting_opening ttl) entries
  pub loaded : HasLoaded (replay (waiting_opening ttl) entries).now
