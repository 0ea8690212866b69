-- Document 01 as definitions, in its order, then what document 02 adds to it, and the statements of what is proved of them.
pub mod Inputs
pub mod Refusals
pub mod Accepted
pub mod Values
pub mod Simulation
pub mod Starts
pub mod Simulate
pub mod Implication
pub mod Expansion
pub mod Sequences
pub mod Grade
pub mod Choose
pub mod Group
pub mod Listing
pub mod Specimens
pub mod Generate
pub mod Promises
