pub mod RowText
pub mod RowDigits
pub mod RowDigitsLaws
pub mod NextRow
