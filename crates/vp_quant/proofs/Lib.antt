pub mod Places
pub mod Levels
pub mod Sixteen
pub mod Reciprocals
pub mod Products
