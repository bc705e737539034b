pub mod Directories
pub mod Ending
pub mod Made
pub mod RegularRows
pub mod Sending
