-- No field of these messages is needless.
use Rattle.std.proofs.Common.{◌≡◌, ℕ, List, Bool, Option, Some, None, Err}
use Rattle.field_rules.specs.declared.unmade.Unmade.TheVariants.{Needless}
use Rattle.snapshot_records.specs.Reference.{reference_made}
use Rattle.snapshot_records.specs.SnapshotInfo.{InfoValues, info_made}
use Rattle.snapshot_records.specs.TableMessage.{table_made}
use Rattle.snapshot_records.specs.RegionInfo.{RegionValues, region_made}

pub reference_needs : (v : Option (List ℕ) × Option Bool) (id : ℕ) → reference_made v ≡ Err (Needless id) → ⊥
reference_needs (None, top) id e = cc
reference_needs (Some row, None) id e = cc
reference_needs (Some row, Some top) id e = cc

pub table_needs : (v : Option (List ℕ) × Option (List ℕ)) (id : ℕ) → table_made v ≡ Err (Needless id) → ⊥
table_needs (space, None) id e = cc
table_needs (space, Some name) id e = cc

pub info_needs : (v : InfoValues) (id : ℕ) → info_made v ≡ Err (Needless id) → ⊥
info_needs (None, (table, (created, (flush, version)))) id e = cc
info_needs (Some name, (None, (created, (flush, version)))) id e = cc
info_needs (Some name, (Some table, (created, (flush, version)))) id e = cc

pub region_needs : (v : RegionValues) (id : ℕ) → region_made v ≡ Err (Needless id) → ⊥
region_needs (None, (table, (start, end))) id e = cc
region_needs (Some region, (None, (start, end))) id e = cc
region_needs (Some region, (Some table, (start, end))) id e = cc
