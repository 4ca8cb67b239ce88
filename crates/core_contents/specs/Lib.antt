pub mod ContentFacts
pub mod PlanFacts
pub mod Faithful
pub mod Laws
pub mod BuiltNumbers
