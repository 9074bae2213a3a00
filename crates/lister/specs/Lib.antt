pub mod Walks
pub mod Paths
pub mod OpenElements
pub mod Standings
pub mod Descents
pub mod Phases
