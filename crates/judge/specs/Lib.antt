-- What the judge of a plan file answers, and what the functions below it say, in reading order.
pub mod Fields
