pub mod Phrases
pub mod Keeping
pub mod Saying
mod Growth
pub mod Turns
pub mod Worked
pub mod Serving
