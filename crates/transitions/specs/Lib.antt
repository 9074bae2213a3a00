pub mod Arcs
pub mod Automata
pub mod Bits
pub mod Bounds
pub mod Marked
pub mod RowLists
pub mod Runs
pub mod Searches
