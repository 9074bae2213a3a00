pub mod Fronts
pub mod Beginning
pub mod Once
pub mod Ranks
