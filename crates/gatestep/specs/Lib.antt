pub mod Faults
pub mod Jobs
pub mod Record
pub mod Step
pub mod Tasks
pub mod kept
