pub mod Simplifiable
pub mod Types
