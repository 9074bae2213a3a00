pub mod Names
pub mod Keys
pub mod Entries
pub mod Grammars
pub mod Firsts
