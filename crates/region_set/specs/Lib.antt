pub mod SetState
pub mod FamilyLine
pub mod RegionLine
pub mod RegionParts
pub mod RegionSet
pub mod Body
