-- The laws of counting.
pub mod Down
pub mod Lines
