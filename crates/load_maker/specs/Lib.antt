pub mod Accepted
pub mod Encoding
pub mod File
pub mod Input
pub mod Program
