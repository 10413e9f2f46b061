pub mod Elaborations
pub mod FaultPlaces
pub mod Levels
pub mod Ports
pub mod Scopes
pub mod Tops
pub mod kept
