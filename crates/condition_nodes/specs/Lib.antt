pub mod Reading
pub mod Gathered
pub mod Tails
pub mod Literals
