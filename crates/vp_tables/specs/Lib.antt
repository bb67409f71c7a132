pub mod Tables
pub mod Modes
