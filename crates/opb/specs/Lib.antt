-- What an OPB text says, how it is spelled, and the text that a plan is written as.
pub mod Opb
pub mod Spell
pub mod Tau
