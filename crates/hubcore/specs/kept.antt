pub mod Lists
pub mod Snapshots
pub mod States
pub mod Steps
