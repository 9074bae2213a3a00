pub mod Matched
pub mod States
pub mod Sorting
pub mod FirstFree
pub mod Lists
