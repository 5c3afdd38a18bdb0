pub mod Sides
pub mod Saying
pub mod Serving
