pub mod Least
pub mod Owners
pub mod NcNames
pub mod Bindings
pub mod Places
pub mod Files
pub mod ClassPlaces
