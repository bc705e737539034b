pub mod Begun
pub mod Acts
pub mod Standing
pub mod Seats
pub mod Answers
pub mod Opening
