-- What it is to put bytes into a lent buffer.
pub mod Overlay
