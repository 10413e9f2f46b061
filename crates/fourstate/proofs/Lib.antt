pub mod Planes
pub mod Readings
pub mod Rules
pub mod Summaries
pub mod Tables
