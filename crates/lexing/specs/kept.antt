pub mod Classes
pub mod Lexemes
pub mod Spaces
pub mod Texts
