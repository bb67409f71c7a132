pub mod Ivf
pub mod Reader
pub mod Cutting
pub mod Text
pub mod Writer
pub mod Names
pub mod Laws
