pub mod RecordLaws
pub mod BlockLaws
pub mod IndexLaws
pub mod RowLaws
pub mod ReadLaws
pub mod Readings
