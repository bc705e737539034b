pub mod Answers
pub mod Tellings
pub mod Looks
pub mod Naming
pub mod Seats
pub mod Ends
pub mod Making
