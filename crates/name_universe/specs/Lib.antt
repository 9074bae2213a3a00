pub mod Named
pub mod Partitions
pub mod Sets
pub mod Tables
pub mod PartNames
