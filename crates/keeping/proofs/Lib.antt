-- Why a flip on what is kept leaves the fresh count of the flipped bits, and keeps what is kept.
pub mod Turning
pub mod Keeping
pub mod Opening
