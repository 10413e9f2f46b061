mod BlockLemmas
pub mod CellLemmas
pub mod ChangeLemmas
pub mod EntryLemmas
pub mod GapLemmas
pub mod GatherLemmas
pub mod KeptLemmas
pub mod ListLemmas
pub mod NameLemmas
pub mod NumberLemmas
pub mod TableLemmas
