pub mod BigEndian
pub mod VlongFaults
pub mod Vlongs
