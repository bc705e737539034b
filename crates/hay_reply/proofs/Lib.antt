pub mod Joins
pub mod Cuts
pub mod Numbers
pub mod Wording
pub mod Back
pub mod Encoding
