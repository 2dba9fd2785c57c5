-- What holds of walk.bin and of the text that the program prints.
pub mod Judging
