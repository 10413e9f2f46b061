pub mod Reruns
pub mod kept
