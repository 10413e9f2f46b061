pub mod Dirty
pub mod kept
