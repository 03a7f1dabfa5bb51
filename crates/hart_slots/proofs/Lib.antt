mod EachPart
mod IdleSlots
mod Joins
mod LastFrame
mod OneChange
mod OneMore
mod Starting
mod Waking
