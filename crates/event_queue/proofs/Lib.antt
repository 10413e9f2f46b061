pub mod Changes
pub mod Moments
pub mod Rows
