pub mod CodeLemmas
pub mod ListLemmas
pub mod MomentLemmas
mod Rows
pub mod ScopeLemmas
pub mod UpcomingLemmas
pub mod WaveLemmas
pub mod Ways
