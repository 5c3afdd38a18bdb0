pub mod LineData
pub mod Keys
pub mod Line
