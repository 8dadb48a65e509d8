pub mod Cut
pub mod Phrases
pub mod Faultless
