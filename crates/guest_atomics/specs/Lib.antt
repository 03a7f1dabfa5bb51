pub mod Free
pub mod Idle
pub mod Lending
