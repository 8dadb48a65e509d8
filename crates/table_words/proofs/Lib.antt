mod Identifiers
mod Forms
mod Names
mod Asking
pub mod Lists
