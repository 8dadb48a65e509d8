pub mod Insides
pub mod Patterns
pub mod Tests
pub mod Queries
pub mod Outcomes
pub mod Reading
pub mod Conditions
pub mod Items
