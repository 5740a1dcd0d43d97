pub mod Moving
pub mod Rows
pub mod Editing
pub mod Determined
pub mod Filled
