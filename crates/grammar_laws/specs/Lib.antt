pub mod Trees
pub mod Files
pub mod Grammar
pub mod Nesting
pub mod Faults
pub mod Prefixes
pub mod Examples
