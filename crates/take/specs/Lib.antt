-- What taking the plan's pairs asks for and gives.
pub mod Take
