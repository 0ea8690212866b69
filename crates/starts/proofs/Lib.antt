-- Laws of starting states in lanes.
pub mod Laws
