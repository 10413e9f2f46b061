pub mod Chunks
pub mod Exact
pub mod Lending
