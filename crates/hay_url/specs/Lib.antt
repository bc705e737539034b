pub mod Url
pub mod Parts
