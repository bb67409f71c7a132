pub mod Checks
pub mod Checking
