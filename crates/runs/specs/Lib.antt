pub mod Keys
pub mod Ordered
pub mod Places
