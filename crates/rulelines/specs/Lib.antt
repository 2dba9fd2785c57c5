-- What writing a rule's lines needs.
pub mod Rules
pub mod Read
