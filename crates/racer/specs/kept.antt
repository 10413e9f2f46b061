pub mod Complaints
pub mod Looks
pub mod Races
pub mod Refusals
pub mod Submits
pub mod Tallies
pub mod Threads
