pub mod Still
pub mod Smaller
pub mod Found
pub mod Faults
pub mod TooLong
pub mod Laws
pub mod Ppm
pub mod Shown
