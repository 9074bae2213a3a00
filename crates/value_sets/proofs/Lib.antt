pub mod TextSets
pub mod Joining
pub mod Numbering
