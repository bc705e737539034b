pub mod OpenCopies
pub mod Faults
pub mod Replicas
pub mod CompactionRuns
pub mod Draws
pub mod Readings
