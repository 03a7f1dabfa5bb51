mod Beginning
mod Ending
mod Sent
