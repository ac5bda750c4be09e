pub mod Meets
pub mod Tables
