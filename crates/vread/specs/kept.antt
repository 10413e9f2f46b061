pub mod Details
pub mod Known
pub mod Parts
pub mod Searches
