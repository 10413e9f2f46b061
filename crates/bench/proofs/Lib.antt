pub mod CommitLemmas
pub mod HistoryLemmas
pub mod KeyLemmas
pub mod PastLemmas
pub mod SinceLemmas
pub mod TouchedLemmas
