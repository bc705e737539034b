pub mod Endings
pub mod Lines
pub mod NextRun
pub mod Stops
