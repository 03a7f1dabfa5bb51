pub mod Nests
pub mod Stacks
pub mod Frames
pub mod Rescues
pub mod Thins
pub mod Leading
mod Filling
mod Reading
