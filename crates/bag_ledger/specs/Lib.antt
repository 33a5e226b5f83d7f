pub mod Ledgers
pub mod Keeping
pub mod PutFaults
pub mod Findings
pub mod Stored
