pub mod Reading
pub mod Operands
pub mod Conditions
pub mod Lists
pub mod Selects
pub mod Outcomes
pub mod Spans
