pub mod Batches
pub mod SmallStores
