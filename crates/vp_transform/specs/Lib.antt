pub mod Fits
pub mod Steps
pub mod Transform
pub mod Forward
pub mod Narrow
pub mod Short
pub mod Pair
