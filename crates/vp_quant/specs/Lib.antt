pub mod Quant
pub mod Level
pub mod Short
