-- Laws of lanes.
pub mod Bits
pub mod Laws
pub mod Follows
