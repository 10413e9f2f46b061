pub mod Lines
pub mod Listings
pub mod Parts
pub mod Windows
pub mod kept
