pub mod Reaching
pub mod Formed
pub mod Outcomes
pub mod Searching
pub mod Making
