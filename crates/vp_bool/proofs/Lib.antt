pub mod Numbers
pub mod WindowLemmas
pub mod BoolLemmas
mod MarkLemmas
pub mod LawLemmas
pub mod EncoderLemmas
pub mod IntervalLemmas
pub mod RoundTripLemmas
pub mod WritingLemmas
pub mod ReaderLemmas
mod TopLemmas
mod PartLemmas
mod PassLemmas
mod EndLemmas
