pub mod CommandLineLemmas
pub mod StartLemmas
pub mod WordLemmas
