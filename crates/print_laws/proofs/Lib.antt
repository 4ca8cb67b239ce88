pub mod ShownLemmas
pub mod LinesLemmas
pub mod CellLemmas
pub mod LastLemmas
pub mod ClearLemmas
pub mod ReplyLemmas
pub mod PrintedLemmas
pub mod AnswerLemmas
