pub mod Rules
pub mod Truths
pub mod Shared
pub mod Described
pub mod Flags
pub mod NameSets
