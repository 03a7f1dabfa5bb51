pub mod Acts
pub mod Memories
pub mod Points
pub mod Runs
pub mod Start
