pub mod Chains
pub mod FirstKeys
pub mod Cuts
pub mod Told
pub mod Infos
