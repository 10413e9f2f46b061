pub mod Drivers
pub mod Jobs
pub mod StepLaws
pub mod Tasks
