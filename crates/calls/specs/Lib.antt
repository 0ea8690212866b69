-- Which call a number is of, and what each answers and writes.
pub mod Numbers
pub mod Made
