mod FileLemmas
mod NameLemmas
mod RowLemmas
mod Values
mod TagLemmas
