-- Where a walk over the pairs stands.
pub mod Expand
