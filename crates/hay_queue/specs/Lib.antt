pub mod Benches
pub mod Desks
pub mod Laws
pub mod Rule
pub mod Serves
pub mod Shares
pub mod Streams
