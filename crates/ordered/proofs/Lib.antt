pub mod Lists
pub mod Members
pub mod ByNumbers
pub mod Places
pub mod Fits
pub mod Kept
pub mod Edits
