pub mod Shape
pub mod Scalar
pub mod Signed
pub mod Signed32
pub mod Ranges
pub mod Bytes
