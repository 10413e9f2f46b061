pub mod Kept
pub mod Waves
