-- What stage 5's sequences ask for, and how they end.
pub mod Ends
