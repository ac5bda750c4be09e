pub mod Marks
pub mod Decimals
pub mod Pieces
