-- What the records, sizes and tables stand for.
pub mod Table
