pub mod Directories
pub mod Making
pub mod Blocks
