pub mod Rejoined
pub mod Lending
pub mod Parts
