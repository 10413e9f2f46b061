pub mod Batches
pub mod Checks
pub mod EditFaults
pub mod Edits
pub mod kept
