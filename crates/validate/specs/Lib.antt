pub mod Walks
pub mod Tellings
pub mod Right
