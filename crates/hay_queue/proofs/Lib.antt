pub mod Counts
pub mod Gathering
pub mod Lanes
pub mod Rules
pub mod Seats
pub mod Settling
pub mod Steps
pub mod Streams
