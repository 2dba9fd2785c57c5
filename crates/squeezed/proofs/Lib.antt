-- The theorems on squeezed plans.
pub mod Alike
pub mod Numbers
pub mod Lawful
