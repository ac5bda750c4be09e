pub mod Charged
pub mod Rights
pub mod Settings
