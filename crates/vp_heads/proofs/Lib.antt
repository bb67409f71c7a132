pub mod FieldLemmas
pub mod HeadLemmas
pub mod NumberLemmas
pub mod Pages
pub mod ReplyLemmas
pub mod NoStill
