pub mod Images
pub mod Steps
mod Gates
pub mod Logs
