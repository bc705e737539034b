pub mod Counts
pub mod Disk
pub mod Gate
pub mod Shelf
pub mod Streams
