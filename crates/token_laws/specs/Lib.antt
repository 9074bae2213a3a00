pub mod Tokens
pub mod Spellings
pub mod Names
pub mod Lexing
pub mod Examples
pub mod Beginnings
