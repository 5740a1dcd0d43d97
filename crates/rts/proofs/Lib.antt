pub mod Fitting
pub mod Lines
pub mod Spelling
pub mod Entries
pub mod Carried
pub mod Writes
pub mod RoundTrips
pub mod Determined
