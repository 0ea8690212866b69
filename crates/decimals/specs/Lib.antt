-- Bytes appended to a print.
pub mod Put
