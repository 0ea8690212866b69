-- What Grade gives and leaves.
pub mod Graded
