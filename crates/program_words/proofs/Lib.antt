pub mod Fitting
pub mod Numbers
pub mod Parsed
pub mod PortWords
pub mod Rules
pub mod Taking
pub mod Texts
pub mod Worked
