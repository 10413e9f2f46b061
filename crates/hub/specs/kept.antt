pub mod Desks
pub mod Histories
pub mod Issues
pub mod Rules
