pub mod Framing
pub mod Numbers
pub mod Taking
