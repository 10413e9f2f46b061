pub mod Lists
pub mod States
pub mod Steps
pub mod kept
