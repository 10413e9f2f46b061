pub mod Changes
pub mod Entries
pub mod Timelines
pub mod kept
