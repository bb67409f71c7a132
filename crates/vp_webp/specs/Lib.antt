pub mod Names
pub mod Bytes
pub mod Chunks
pub mod WebP
pub mod Place
pub mod Text
pub mod Laws
