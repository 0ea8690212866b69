-- What picking pairs asks for and gives.
pub mod Pick
