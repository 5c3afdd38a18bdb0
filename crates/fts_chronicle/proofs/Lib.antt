mod Growing
mod Seen
mod Lives
