pub mod Held
pub mod Pieces
