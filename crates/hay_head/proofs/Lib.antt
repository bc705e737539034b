pub mod RowLaws
pub mod SlotLaws
pub mod HeadLaws
pub mod BlockLaws
