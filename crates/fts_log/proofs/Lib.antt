pub mod OneLine
pub mod ReadBack
pub mod Calendars
