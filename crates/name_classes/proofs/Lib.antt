pub mod Comparing
pub mod Making
pub mod Reading
