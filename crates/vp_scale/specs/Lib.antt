pub mod Scale
pub mod Planes
pub mod Means
pub mod Runs
