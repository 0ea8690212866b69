-- The verdict of one fault.
pub mod Decide
