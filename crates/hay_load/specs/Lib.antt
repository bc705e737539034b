pub mod Answers
pub mod Gathering
pub mod Loads
pub mod Replies
