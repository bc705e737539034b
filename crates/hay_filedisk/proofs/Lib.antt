pub mod SameHeld
