pub mod Changes
pub mod Cuts
pub mod Reruns
