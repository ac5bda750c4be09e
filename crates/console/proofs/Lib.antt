pub mod Lefts
pub mod Values
