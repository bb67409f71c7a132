pub mod NumberLemmas
pub mod PlainArgs
pub mod ArgsLemmas
