pub mod NameOrder
pub mod Parts
pub mod Choices
pub mod Views
pub mod ClassOrder
