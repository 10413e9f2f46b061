pub mod DeviceLemmas
mod GhostSteps
pub mod HistoryLemmas
pub mod WriterLemmas
