pub mod Summed
pub mod Counted
pub mod Plain
pub mod Pairs
pub mod Tallied
pub mod Lists
pub mod PlainSnapshot
