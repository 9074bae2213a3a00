pub mod Strays
pub mod Passing
