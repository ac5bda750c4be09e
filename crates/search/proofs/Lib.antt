pub mod Sums
pub mod RowFacts
pub mod Traces
pub mod Invariant
pub mod Expansion
pub mod Cuts
pub mod Ends
pub mod Advances
pub mod Benches
pub mod Lent
pub mod Remainders
pub mod Promises
pub mod Held
pub mod Runs
mod Seeks
mod Ranks
mod Tells
mod Heaps
mod Notes
mod Entries
pub mod Plans
mod Lines
pub mod Sessions
pub mod Takings
mod Placings
mod Sweeps
mod Running
pub mod Advancings
mod Sound
mod Worked
