pub mod Lending
mod Listed
mod Parts
mod PlaceLemmas
mod Retained
mod SlotLemmas
mod Written
