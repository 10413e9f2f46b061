pub mod ArgsFaults
pub mod Complaints
pub mod Programs
pub mod Refusals
pub mod Start
