pub mod Checks
pub mod ProgramHeader
pub mod Segment
