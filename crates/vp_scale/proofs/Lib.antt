mod RunLemmas
mod SideLemmas
mod PictureLemmas
mod FullLemmas
mod LaneLemmas
