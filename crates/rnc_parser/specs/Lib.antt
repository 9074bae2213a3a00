pub mod Reading
pub mod Parts
pub mod Depth
pub mod Refusals
