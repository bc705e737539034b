pub mod Blames
pub mod Fuses
pub mod Lanes
pub mod Puts
pub mod Reads
pub mod Replies
pub mod Tellings
