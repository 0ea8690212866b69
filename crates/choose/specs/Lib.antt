-- Which arrays have room for a job.
pub mod Room
