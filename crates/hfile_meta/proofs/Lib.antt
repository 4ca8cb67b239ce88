pub mod Trailers
pub mod WrittenTrailers
pub mod Infos
pub mod WrittenInfos
