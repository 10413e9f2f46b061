pub mod Commits
pub mod Desks
pub mod kept
