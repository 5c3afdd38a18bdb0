pub mod Quoting
pub mod Errnos
pub mod Answers
pub mod EventLines
pub mod Fields
pub mod Logged
pub mod Moments
