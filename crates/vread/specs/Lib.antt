pub mod Details
pub mod Drivers
pub mod LateFaults
pub mod Netlists
pub mod Reads
pub mod kept
