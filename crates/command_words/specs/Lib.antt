pub mod Words
pub mod Reading
pub mod Extra
pub mod Requests
