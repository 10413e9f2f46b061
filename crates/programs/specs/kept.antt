pub mod CommandLaws
pub mod Endings
pub mod Files
pub mod TextLaws
