pub mod Parts
pub mod Counting
pub mod Written
pub mod Sizes
