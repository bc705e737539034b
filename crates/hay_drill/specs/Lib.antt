pub mod Script
pub mod Parts
pub mod Summary
