pub mod EntryLemmas
pub mod LedgerLemmas
pub mod SoundLemmas
pub mod StoredLemmas
pub mod TestingLemmas
