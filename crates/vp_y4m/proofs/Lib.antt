mod DecimalLemmas
mod LineLemmas
mod HeaderLemmas
mod NumberLemmas
mod PixelLemmas
mod PictureLemmas
mod FrameLemmas
mod LawLemmas
pub mod ReadLemmas
