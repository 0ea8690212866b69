-- Why the theorems hold, and the laws that code is proved by.
pub mod Scans
pub mod Laws
pub mod Tokens
pub mod Sentences
pub mod Records
pub mod Passed
pub mod Read
pub mod Vectors
pub mod Theorems
