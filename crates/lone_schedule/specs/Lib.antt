pub mod Choice
pub mod Rows
pub mod Insides
pub mod Turns
pub mod Lone
pub mod Ahead
pub mod Drives
