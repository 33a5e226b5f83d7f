pub mod Standard
pub mod Lanes
pub mod Rounds
pub mod Tasks
pub mod Streams
