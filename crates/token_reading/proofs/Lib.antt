pub mod Classes
pub mod FirstTokens
pub mod RefusalLemmas
pub mod Samples
