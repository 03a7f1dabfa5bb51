pub mod Failures
pub mod Subjects
pub mod Trials
