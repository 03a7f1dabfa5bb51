pub mod Leading
pub mod Nest
pub mod Rooms
pub mod Stacked
