pub mod Walking
pub mod Siding
pub mod Numbering
pub mod Replaying
pub mod Verdicts
