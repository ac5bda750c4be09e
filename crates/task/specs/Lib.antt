pub mod Atoms
pub mod Settings
pub mod Benches
pub mod Refusals
