pub mod Acting
pub mod Answering
pub mod Calling
pub mod Knowing
pub mod Opening
pub mod Showing
pub mod Unfused
