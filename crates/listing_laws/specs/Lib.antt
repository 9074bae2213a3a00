pub mod Pending
pub mod StateCounts
pub mod Fronts
pub mod Ranks
