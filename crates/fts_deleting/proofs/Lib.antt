mod Lines
mod Listing
