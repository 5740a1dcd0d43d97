pub mod Digits
pub mod Laws
pub mod Elements
pub mod WordLaws
pub mod Determined
