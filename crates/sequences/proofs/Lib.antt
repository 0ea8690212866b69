-- Laws of rows that are given, of the lists of sequences, and of how they end.
pub mod Lists
pub mod Units
pub mod Blocks
