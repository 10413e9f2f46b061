pub mod Changes
pub mod Codes
pub mod Head
pub mod Scopes
pub mod Text
pub mod Written
pub mod kept
