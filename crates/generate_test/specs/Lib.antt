-- What the contracts say.
pub mod Period
