pub mod Explanation
pub mod Keys
pub mod Right
pub mod Shown
pub mod Tables
pub mod Wrong
