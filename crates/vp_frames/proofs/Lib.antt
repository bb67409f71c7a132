pub mod RangeLemmas
pub mod PictureLemmas
pub mod PacketLemmas
pub mod CountLemmas
pub mod ReadLemmas
pub mod WrittenLemmas
pub mod LawLemmas
