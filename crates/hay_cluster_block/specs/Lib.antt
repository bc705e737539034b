pub mod Notes
pub mod Rows
pub mod Blocks
