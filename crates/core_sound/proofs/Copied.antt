-- The entries of a snapshot are those that were captured.
use Rattle.std.proofs.Common.{◌≡◌, ◌⊎◌, ℕ, List, [], ◌∷◌, Option, Some, None, refl, inl, inr}
use Rattle.std.specs.Prelude.{filter_map, option_map}
use Rattle.std.specs.List.{flat_map, cons_option}
use Rattle.hb_records.specs.declared.region_info.RegionInfo.{RegionInfo}
use Rattle.plain_model.specs.declared.region_key.RegionKey.{RegionKey}
use Rattle.plain_model.specs.Found.{open_in}
use Rattle.plain_model.specs.Keys.{key_of}
use Rattle.plain_model.specs.Plain.{Plain}
use Rattle.core_model.specs.declared.entry.Entry.{Entry}
use Rattle.core_model.specs.declared.region_files.RegionFiles.{RegionFiles}
use Rattle.core_model.specs.declared.snapshot.CopiedRegion.{CopiedRegion}
use Rattle.cell_sight.specs.Member.{Member}
use Rattle.core_model.specs.PassChanges.{snapshot_entries}
use Rattle.core_model.specs.SnapshotGuards.{copied, snapshot_of}
use Rattle.core_sound.proofs.Lists.{member-append}

-- a region's capture has the entry
abbrev pub IsCaptured : (RegionKey → Option RegionFiles) → Entry → Type 0
IsCaptured captures e = (r : RegionKey) × (l : RegionFiles) × (captures r ≡ Some l) × Member e l.entries

from_region : (captures : RegionKey → Option RegionFiles) (i : RegionInfo) (o : Option RegionFiles) (rest : List CopiedRegion) (e : Entry) → captures (key_of i) ≡ o
    → Member e (flat_map (λ (r : CopiedRegion). r.entries) (cons_option (option_map (λ (l : RegionFiles). record { info = i; seq = l.seq; entries = l.entries }) o) rest))
    → IsCaptured captures e ⊎ Member e (flat_map (λ (r : CopiedRegion). r.entries) rest)
from_region captures i None rest e k m = inr m
from_region captures i (Some l) rest e k m = elim (member-append e l.entries (flat_map (λ (r : CopiedRegion). r.entries) rest) m) [ inl n ↦ inl (key_of i, l, k, n) | inr n ↦ inr n ]

from_regions : (captures : RegionKey → Option RegionFiles) (is : List RegionInfo) (e : Entry) → Member e (flat_map (λ (r : CopiedRegion). r.entries) (filter_map (copied captures) is)) → IsCaptured captures e
from_regions captures [] e m = absurd m
from_regions captures (i ∷ is) e m = elim (from_region captures i (captures (key_of i)) (filter_map (copied captures) is) e refl m) [ inl k ↦ k | inr k ↦ from_regions captures is e k ]

pub copied-member : (captures : RegionKey → Option RegionFiles) (t : List ℕ) (p : Plain) (e : Entry) → Member e (snapshot_entries (snapshot_of captures t p)) → IsCaptured captures e
copied-member captures t p e m = from_regions captures (open_in p t) e m
