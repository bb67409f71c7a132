pub mod SeenLemmas
pub mod PacketLemmas
pub mod FilmLemmas
