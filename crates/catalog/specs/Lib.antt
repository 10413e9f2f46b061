pub mod Catalog
pub mod kept
