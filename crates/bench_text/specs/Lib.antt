-- Bench text, document 02's request Four: what a text says, line by line, the circuit that it describes, and what is promised of it.
pub mod Text
pub mod Sentence
pub mod Bench
pub mod Promises
