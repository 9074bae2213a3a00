pub mod Escapes
pub mod Pieces
pub mod PieceLists
pub mod Parts
pub mod Coded
pub mod Spelled
pub mod Held
