pub mod Images
pub mod Written
pub mod Faithful
pub mod Determined
pub mod Places
pub mod Copied
