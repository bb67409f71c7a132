pub mod ListingLemmas
pub mod NameLemmas
pub mod SumLemmas
pub mod TextLemmas
