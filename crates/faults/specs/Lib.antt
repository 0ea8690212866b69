-- What it means that lanes have faults, or none.
pub mod Given
