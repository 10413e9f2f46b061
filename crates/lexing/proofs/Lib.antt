mod ClassLemmas
pub mod DirectiveLemmas
pub mod GapLemmas
pub mod LawLemmas
pub mod LexemeLemmas
pub mod ShapeLemmas
pub mod SpaceLemmas
pub mod TestLemmas
pub mod TextLemmas
pub mod WholeLemmas
pub mod WordLemmas
