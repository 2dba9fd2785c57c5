-- What opening, flip and counts answer and leave, for every lent byte, and demand 3 over them.
pub mod Layout
pub mod Calls
pub mod Narrow
pub mod Demand
pub mod Within
