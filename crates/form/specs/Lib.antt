pub mod Shape
pub mod Layout
pub mod FormOne
pub mod Reading
pub mod Writing
