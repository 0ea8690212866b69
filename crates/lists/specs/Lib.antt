-- Lists, scans and byte fields that know nothing of circuits.
pub mod Scan
pub mod Field
