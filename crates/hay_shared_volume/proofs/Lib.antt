pub mod Ending
pub mod Made
pub mod Naming
pub mod Places
pub mod Regular
pub mod Seats
pub mod Sending
pub mod Telling
