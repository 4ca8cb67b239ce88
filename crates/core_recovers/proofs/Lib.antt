mod OneEntry
mod FamilyParts
pub mod OneReading
pub mod Recovered
