pub mod Changing
pub mod HomeLaw
pub mod HomeTables
pub mod PlaceLaw
