pub mod Progress
pub mod Endings
pub mod Counting
pub mod Doing
pub mod Held
pub mod Summing
pub mod Costs
