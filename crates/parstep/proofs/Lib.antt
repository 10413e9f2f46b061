pub mod Dealt
pub mod Gathered
pub mod Mapped
pub mod Outcomes
pub mod Same
pub mod Walks
