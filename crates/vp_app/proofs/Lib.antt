pub mod ProgramLemmas
pub mod FeedingLemmas
pub mod ServingLemmas
pub mod RunLemmas
