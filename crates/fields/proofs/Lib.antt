-- Laws of bytes written one behind the other.
pub mod Writing
