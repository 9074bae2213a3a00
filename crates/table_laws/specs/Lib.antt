pub mod Premises
pub mod Reaching
pub mod Finishing
pub mod Walking
pub mod Places
pub mod Heads
pub mod Remainders
