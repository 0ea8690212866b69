-- Keys of records, and the groups so far.
pub mod Groups
