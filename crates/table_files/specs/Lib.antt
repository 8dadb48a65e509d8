pub mod TableFiles
pub mod TablePlaces
