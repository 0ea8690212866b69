-- What the lanes of a word of trials hold.
pub mod Trial
