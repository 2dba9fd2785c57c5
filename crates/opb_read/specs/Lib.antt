-- What reading an OPB text answers and leaves.
pub mod Reads
