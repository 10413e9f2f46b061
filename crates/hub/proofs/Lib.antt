pub mod Adding
pub mod Asking
pub mod Beginnings
pub mod Keeping
