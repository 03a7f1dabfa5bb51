pub mod Ands
pub mod Insides
pub mod LastEntries
pub mod InstCases
pub mod CallCases
pub mod Walk
pub mod Slots
pub mod FewerFrames
pub mod SlotCount
pub mod Kept
pub mod Staying
pub mod Quietness
pub mod Entries
pub mod Nested
pub mod EnteredFrames
pub mod Appends
pub mod RunSteps
pub mod Longer
pub mod StepsAfter
pub mod Tids
pub mod OneEnding
pub mod Requests
pub mod ByteLengths
pub mod Arrivals
pub mod Ahead
pub mod Faulting
pub mod Lone
pub mod Readiness
pub mod Under
pub mod Fetches
mod RunsShown
mod RescueShown
pub mod RefusedRescues
mod TakenBackShown
pub mod OneMore
