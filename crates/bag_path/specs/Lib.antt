pub mod LineCounts
pub mod Lines
pub mod LinesLeft
pub mod Octets
pub mod Paths
pub mod SpellingReading
pub mod Spellings
pub mod Versions
