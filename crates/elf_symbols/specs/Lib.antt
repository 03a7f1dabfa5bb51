pub mod Find
pub mod Listed
pub mod SymFault
pub mod SymbolFields
pub mod SymbolTable
pub mod Tallies
