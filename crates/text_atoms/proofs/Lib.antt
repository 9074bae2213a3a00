mod CharacterLemmas
mod Equal
mod LoneWords
pub mod Words
mod Zeros
mod CanonicalForms
pub mod Signatures
pub mod Members
pub mod Marks
pub mod Numbering
pub mod Spaces
pub mod Sets
pub mod FreshTexts
pub mod Extending
pub mod RuleTexts
pub mod FreshRules
pub mod Finding
pub mod Grouping
pub mod SpacedForms
pub mod StandingTexts
mod FirstPlaces
