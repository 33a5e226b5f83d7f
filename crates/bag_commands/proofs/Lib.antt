pub mod AlgNames
pub mod IntakeLemmas
pub mod NameLemmas
pub mod RunsTaken
pub mod VerdictLemmas
