-- What holds of the code's answers beside the definitions of the file.
pub mod Judged
pub mod Stepped
