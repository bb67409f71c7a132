pub mod Edges
pub mod Whole
pub mod Sub
pub mod SubLanes
