pub mod Answering
pub mod Batching
pub mod Taking
