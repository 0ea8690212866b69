-- What the sieve leaves in an area, and the packs of open faults.
pub mod Sieve
