pub mod Homes
pub mod Notes
pub mod Rows
pub mod Seen
pub mod State
