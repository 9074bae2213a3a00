pub mod WholeBodies
pub mod Examples
