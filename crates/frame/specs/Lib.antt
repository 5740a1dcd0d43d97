pub mod Address
pub mod Words
pub mod Layout
pub mod Reading
pub mod Writing
