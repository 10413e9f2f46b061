pub mod CommandLine
pub mod Endings
pub mod Files
pub mod Numbers
pub mod Refusals
pub mod Words
pub mod kept
