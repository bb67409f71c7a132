pub mod AccessLines
pub mod OpenSockets
pub mod PlainLines
pub mod OtherSockets
