pub mod Chains
pub mod HomeLooks
pub mod MapPasts
pub mod PlaceLooks
