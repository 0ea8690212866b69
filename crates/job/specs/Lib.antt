-- What an accepted job is, and what a call returns.
pub mod Job
