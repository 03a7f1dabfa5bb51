pub mod Appending
pub mod DigitTexts
pub mod Insides
pub mod Orders
pub mod ListPuts
