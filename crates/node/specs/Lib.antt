pub mod Meant
pub mod Turn
pub mod Replies
pub mod Frames
pub mod Histories
