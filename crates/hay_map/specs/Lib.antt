pub mod MapRows
pub mod Places
pub mod Rows
pub mod Sealed
