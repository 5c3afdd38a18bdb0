pub mod EventFloats
pub mod Events
pub mod Groups
pub mod Pages
pub mod Places
pub mod Walk
