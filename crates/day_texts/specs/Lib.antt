pub mod Dates
pub mod DayTexts
