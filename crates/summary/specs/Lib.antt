pub mod Summary
pub mod Totals
pub mod Sending
