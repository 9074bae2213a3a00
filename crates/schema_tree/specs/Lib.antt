pub mod Trees
pub mod Files
pub mod Features
pub mod Least
pub mod Sound
