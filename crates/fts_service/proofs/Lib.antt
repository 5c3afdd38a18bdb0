pub mod Crosses
mod Doubting
mod Answering
mod Lines
mod Passing
mod Seated
mod Sitting
mod Untaken
pub mod Opened
