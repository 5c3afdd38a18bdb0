mod Gathering
mod Showing
