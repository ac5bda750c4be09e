pub mod Keypad
mod Bridges
mod Closings
mod Lines
mod Lowest
mod Passes
mod Spreads
mod Writes
