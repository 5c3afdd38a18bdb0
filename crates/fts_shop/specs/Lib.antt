pub mod Shops
pub mod Within
pub mod Looking
pub mod Looked
pub mod Turns
pub mod Parts
pub mod Many
pub mod Workers
