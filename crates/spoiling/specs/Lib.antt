-- What a flip spoils, along the variable's run.
pub mod Along
