pub mod Mounts
