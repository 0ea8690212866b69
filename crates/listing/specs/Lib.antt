-- What the print is made of, and what is read of the four files.
pub mod Print
