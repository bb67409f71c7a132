pub mod AccessLine
pub mod Growth
pub mod Lines
pub mod Sockets
