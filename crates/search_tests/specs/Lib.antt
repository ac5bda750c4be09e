pub mod Rates
pub mod Noise
