-- What the program prints for any three files.
pub mod Program
