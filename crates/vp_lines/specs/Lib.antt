pub mod FaultLines
pub mod Listing
pub mod CheckLines
pub mod Sums
