pub mod Commands
pub mod Left
pub mod Replies
