-- Whether a flip mends something.
pub mod Mends
