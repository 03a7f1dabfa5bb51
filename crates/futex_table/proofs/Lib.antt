mod Flags
mod InPlace
mod OneWaiter
mod OwnSlots
mod Taken
