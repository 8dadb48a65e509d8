pub mod Names
pub mod Translatable
