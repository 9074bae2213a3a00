pub mod Wanted
pub mod Marking
pub mod Renumbering
pub mod Outcomes
pub mod Built
pub mod Numbering
pub mod Depths
