pub mod Atoms
pub mod Records
pub mod Format
pub mod Reader
pub mod Print
pub mod Writer
