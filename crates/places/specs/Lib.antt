-- What stage 1 finds of a batch of faults.
pub mod Found
