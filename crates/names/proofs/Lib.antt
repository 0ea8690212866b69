-- Why the contracts hold.
pub mod Laws
