pub mod Shown
pub mod Piece
pub mod ReplyText
pub mod CauseText
