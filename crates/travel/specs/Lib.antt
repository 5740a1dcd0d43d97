pub mod Arms
pub mod Units
pub mod Halving
pub mod Nearest
pub mod Position
pub mod Share
