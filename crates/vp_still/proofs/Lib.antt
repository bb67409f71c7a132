pub mod PixelLemmas
pub mod StillLemmas
pub mod PpmLemmas
pub mod LawLemmas
