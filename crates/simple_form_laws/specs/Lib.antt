pub mod Prefixes
pub mod ClassForms
pub mod Parts
pub mod Meaning
pub mod Forms
pub mod Normal
pub mod Faults
pub mod Examples
