pub mod Values
pub mod Views
pub mod Steps
pub mod Sound
