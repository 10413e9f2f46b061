pub mod BatchLemmas
pub mod CarriedLemmas
pub mod ChangeLemmas
pub mod CheckLemmas
pub mod FoundLemmas
pub mod KeyLemmas
pub mod KnownLemmas
pub mod TouchLemmas
