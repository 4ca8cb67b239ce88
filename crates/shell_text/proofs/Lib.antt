pub mod BlanksLemmas
pub mod TextLemmas
pub mod RepeatedLemmas
pub mod TextEndLemmas
pub mod MeantLemmas
