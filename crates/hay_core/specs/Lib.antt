pub mod Entries
pub mod Spots
pub mod Calls
pub mod Sides
pub mod Transitions
pub mod Goodness
pub mod Invariants
pub mod Refusals
