pub mod States
pub mod Numbers
pub mod Ranks
pub mod Tables
pub mod Combined
pub mod Walks
pub mod Walker
pub mod Graphs
