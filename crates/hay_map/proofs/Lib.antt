pub mod Changes
pub mod Leaving
pub mod Lists
pub mod Moving
pub mod RowLaws
pub mod FourPlaces
