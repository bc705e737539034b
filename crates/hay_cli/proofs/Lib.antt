pub mod Walks
pub mod Parses
pub mod Numbers
pub mod Drills
pub mod Folders
pub mod Modes
pub mod Spelled
