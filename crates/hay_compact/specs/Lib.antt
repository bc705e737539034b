pub mod Standing
pub mod Copying
pub mod Finishing
