-- What the contracts say.
pub mod Hash
pub mod Place
