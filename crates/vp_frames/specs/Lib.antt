pub mod Ranges
pub mod Pictures
pub mod Reading
pub mod Written
