pub mod Holdings
pub mod Volumes
pub mod Rows
pub mod Sights
pub mod Lines
