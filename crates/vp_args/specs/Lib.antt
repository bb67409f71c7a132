pub mod Args
pub mod Tables
