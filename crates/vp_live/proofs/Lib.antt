pub mod TextLemmas
pub mod LiveLemmas
pub mod AnswerLemmas
pub mod LawLemmas
