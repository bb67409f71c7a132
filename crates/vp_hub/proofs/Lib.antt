mod WithoutStills
pub mod Serving
pub mod Places
pub mod ConnectionStateLemmas
pub mod Isolation
pub mod Cutting
pub mod CacheLemmas
pub mod Turning
pub mod PageLemmas
pub mod Growing
pub mod NameLemmas
pub mod Fed
pub mod FirstLine
pub mod InTurn
pub mod Visiting
pub mod StandingLemmas
pub mod LimitsLemmas
mod PlainLemmas
mod InOrderLemmas
