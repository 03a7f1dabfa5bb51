pub mod Lines
pub mod Options
pub mod Places
pub mod Walks
