pub mod Changes
pub mod Cuts
pub mod Finishing
mod Row
pub mod Standing
