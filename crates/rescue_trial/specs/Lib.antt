pub mod Begins
pub mod Path
pub mod TrialText
