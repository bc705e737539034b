pub mod Giving
pub mod Orders
