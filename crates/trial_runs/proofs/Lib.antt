pub mod Each
pub mod Running
