-- What the exported calls return.
pub mod Detected
pub mod Answered
