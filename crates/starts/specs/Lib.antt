-- What a search through the starting states finds.
pub mod Starts
