pub mod Ends
pub mod Entries
pub mod NameBytes
pub mod PlaceLists
pub mod SymbolRules
pub mod TallySteps
pub mod Values
