-- Room for a job.
pub mod Room
