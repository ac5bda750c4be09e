pub mod Charges
pub mod Totals
pub mod Time
pub mod Presses
