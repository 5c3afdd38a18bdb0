pub mod Joins
pub mod SchemeNames
pub mod EndpointNames
pub mod FilePaths
pub mod Reading
