pub mod Picks
pub mod Nodes
pub mod Places
pub mod Narrow
pub mod Whole
pub mod Distinct
pub mod Examples
