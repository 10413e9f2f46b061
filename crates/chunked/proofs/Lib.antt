pub mod ChunkLemmas
mod LendingLemmas
