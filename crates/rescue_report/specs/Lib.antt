pub mod Numbers
pub mod Lines
pub mod Rescues
pub mod Report
pub mod List
pub mod ListPuts
pub mod Summary
