pub mod Incoming
pub mod Outgoing
pub mod Traffic
pub mod kept
