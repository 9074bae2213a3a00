pub mod Folds
pub mod Places
pub mod Leasts
pub mod Walks
