-- What the builder of the order needs, and how far it has come.
pub mod Arranging
