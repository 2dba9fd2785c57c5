-- A race's settings and its answer in bytes.
pub mod Exchange
