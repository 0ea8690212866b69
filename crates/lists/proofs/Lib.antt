-- Laws of tests, scans, counts, fields and tables.
pub mod Tests
pub mod Scan
pub mod Counts
pub mod Field
pub mod Nested
pub mod Table
