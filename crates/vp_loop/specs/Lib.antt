pub mod LineSteps
pub mod Levels
pub mod LevelTable
pub mod Edges
pub mod Filtered
pub mod Laws
pub mod Lanes
