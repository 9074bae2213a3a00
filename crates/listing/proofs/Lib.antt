pub mod Steps
pub mod Held
pub mod FromSizeToSize
pub mod StateLines
pub mod Sums
pub mod Costs
