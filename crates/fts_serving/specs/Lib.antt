pub mod Cited
pub mod Ends
pub mod Finishes
