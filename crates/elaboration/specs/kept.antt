pub mod Elaborations
pub mod Numbered
pub mod Ranks
pub mod SoundScopes
