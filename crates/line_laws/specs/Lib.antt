pub mod EventLists
pub mod Walks
pub mod LineRefusals
pub mod LineWalks
pub mod Nodes
