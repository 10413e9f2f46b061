pub mod Beginnings
pub mod Growing
pub mod ListSteps
pub mod Releases
pub mod Sound
