pub mod Reading
pub mod Counting
pub mod Comparing
pub mod Fronts
pub mod Listings
pub mod Once
pub mod Openings
pub mod Deciding
