pub mod FileLemmas
pub mod HelpLemmas
pub mod MakingLemmas
pub mod RequestLemmas
pub mod ScreenLemmas
pub mod ViewLemmas
pub mod WorkLemmas
