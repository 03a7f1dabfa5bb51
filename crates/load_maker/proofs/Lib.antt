pub mod Accepted
pub mod Placed
pub mod Rows
pub mod Words
