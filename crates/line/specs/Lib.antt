pub mod Reader
pub mod Telling
pub mod Bundles
pub mod Damage
