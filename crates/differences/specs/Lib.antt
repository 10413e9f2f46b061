pub mod Differences
pub mod kept
