pub mod Dealt
pub mod Jobs
pub mod Sends
pub mod Shares
pub mod Workers
