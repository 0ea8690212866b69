-- What the contracts say.
pub mod Noted
