pub mod Delays
pub mod Gates
pub mod Keywords
pub mod Nets
pub mod Values
pub mod kept
