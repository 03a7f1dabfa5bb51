pub mod Matches
pub mod Verdict
pub mod AuditLines
pub mod Walk
