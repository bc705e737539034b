pub mod CellLaws
pub mod Volumes
pub mod ReadLaws
pub mod ScanLaws
pub mod FlagLaws
pub mod Readings
