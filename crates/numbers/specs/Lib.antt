-- Numbers taken from the lent list, and places found among marks and words.
pub mod Numbers
pub mod Taking
pub mod Finding
