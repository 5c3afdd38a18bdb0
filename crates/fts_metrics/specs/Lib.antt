pub mod Form
pub mod Metrics
pub mod Goings
pub mod Sums
pub mod Totals
