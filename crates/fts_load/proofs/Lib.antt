pub mod Ranges
pub mod Drawing
pub mod Making
pub mod Texts
