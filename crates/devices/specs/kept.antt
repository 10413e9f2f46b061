pub mod Devices
pub mod Incoming
pub mod Outgoing
pub mod Traffic
