pub mod Live
pub mod Progress
pub mod Laws
