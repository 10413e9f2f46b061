pub mod ListLemmas
pub mod PartLemmas
pub mod Rising
pub mod WireLemmas
