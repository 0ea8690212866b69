-- The weights of the pairs that Choose compares, and the best of them.
pub mod Weights
pub mod Best
