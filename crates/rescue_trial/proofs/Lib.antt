pub mod Acts
pub mod Firsts
