pub mod Words
pub mod Sums
pub mod PlaceFacts
pub mod Keeps
pub mod GateSteps
pub mod TurnSteps
pub mod Endings
pub mod RuleSays
