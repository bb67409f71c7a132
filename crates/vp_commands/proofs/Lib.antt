pub mod WorkLemmas
pub mod CommandLemmas
pub mod CheckLemmas
pub mod PictureLemmas
pub mod TaskLemmas
