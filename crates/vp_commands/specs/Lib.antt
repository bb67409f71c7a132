pub mod Usual
pub mod Status
pub mod Picturing
pub mod Commands
