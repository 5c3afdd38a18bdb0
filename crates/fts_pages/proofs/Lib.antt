pub mod Behind
pub mod Listed
pub mod Order
pub mod Floats
pub mod Turns
pub mod Parts
