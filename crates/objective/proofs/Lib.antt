-- What holds of the objective in the tables and of the clause added to them, in reading order.
pub mod WordWrites
pub mod AddedTerms
pub mod Parts
pub mod Tightened
pub mod TightenedTables
