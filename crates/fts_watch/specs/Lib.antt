pub mod Faults
pub mod Monitor
