pub mod Numbers
pub mod HistoryBytes
pub mod Shallow
pub mod Spelled
pub mod Reading
pub mod FileKind
pub mod Starts
