pub mod FileRules
pub mod Headers
pub mod NewPages
pub mod Numbers
pub mod Places
pub mod TableRules
