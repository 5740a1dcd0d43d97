pub mod Envelope
pub mod Range
pub mod Fields
pub mod Table
pub mod Spelling
pub mod Reading
pub mod Writing
