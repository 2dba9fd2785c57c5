-- What the contracts of this crate say.
pub mod Bound
pub mod Count
pub mod Shares
