-- What the contracts of this crate say.
pub mod Falls
