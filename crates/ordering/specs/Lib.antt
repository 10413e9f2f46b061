pub mod kept
