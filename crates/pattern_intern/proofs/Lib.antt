mod Absent
mod Growing
mod Keeping
mod Marking
mod Searching
mod Adding
mod Starting
mod Merging
mod Lists
mod Together
mod Collected
mod Least
mod Comparing
mod Describing
mod Widening
mod Taking
mod Cutting
pub mod Classes
