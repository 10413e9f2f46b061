pub mod Asked
pub mod Run
pub mod Work
pub mod kept
