pub mod Listing
pub mod Damage
pub mod Verdicts
pub mod Faults
