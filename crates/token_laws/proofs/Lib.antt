pub mod Runs
pub mod Segments
pub mod Reading
pub mod Words
pub mod Examples
pub mod Names
pub mod Loops
