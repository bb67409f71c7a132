pub mod BlockLemmas
pub mod EdgeLemmas
pub mod MeanLemmas
pub mod SubLemmas
pub mod SumLemmas
