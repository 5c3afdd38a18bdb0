mod Files
mod Between
mod Keyed
mod Lines
mod Firsts
mod Opens
mod Passed
mod Starts
pub mod Sources
mod Walks
