pub mod Benches
pub mod Commits
pub mod Cursors
pub mod Histories
pub mod Refusals
pub mod Work
pub mod kept
