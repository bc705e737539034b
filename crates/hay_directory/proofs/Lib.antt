pub mod Drains
pub mod HomeLaws
pub mod RowLaws
pub mod SeenLaws
pub mod Standing
