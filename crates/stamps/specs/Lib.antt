-- The numbers of the variables' last flips in a try, as they are kept.
pub mod Stamps
