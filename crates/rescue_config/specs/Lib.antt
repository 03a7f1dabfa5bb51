pub mod Document
pub mod Fields
pub mod PointFault
pub mod PointRules
pub mod ReadFields
pub mod Tells
pub mod Version
