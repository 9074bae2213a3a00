pub mod Options
pub mod Spelled
pub mod Named
pub mod Bodies
pub mod Lines
pub mod Faulted
