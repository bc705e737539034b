pub mod Stored
pub mod Damage
pub mod Finds
pub mod Faults
pub mod Listing
