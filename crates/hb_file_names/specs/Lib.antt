pub mod FileParts
pub mod FileName
pub mod LinkName
pub mod LinkParts
pub mod RefName
pub mod BackRef
pub mod HalfName
pub mod NameLaws
