pub mod OneValues
