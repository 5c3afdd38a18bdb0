pub mod Claims
pub mod Reports
pub mod Fitting
pub mod Ledger
pub mod Machine
