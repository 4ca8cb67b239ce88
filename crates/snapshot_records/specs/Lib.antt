pub mod Reference
pub mod SnapshotInfo
pub mod TableMessage
pub mod RegionInfo
pub mod Schema
pub mod Files
pub mod Manifest
