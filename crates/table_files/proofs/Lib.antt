mod Typing
mod GivenTables
mod PlacesNamed
