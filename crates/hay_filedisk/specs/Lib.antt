pub mod Ledger
pub mod Shelf
pub mod Unsynced
