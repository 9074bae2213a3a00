pub mod Numbers
pub mod Texts
pub mod Fronts
pub mod ExtraWords
pub mod OptionWords
pub mod Beginnings
pub mod Whole
