pub mod TableWords
