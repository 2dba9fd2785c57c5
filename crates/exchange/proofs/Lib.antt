-- Laws of a race's settings and answer in bytes.
pub mod Laws
