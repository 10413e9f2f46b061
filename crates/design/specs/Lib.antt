pub mod Connections
pub mod Keys
pub mod Names
pub mod Netlist
pub mod kept
