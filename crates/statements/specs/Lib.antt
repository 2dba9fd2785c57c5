-- The statements of an OPB text, and what the code answers of their parts.
pub mod Grammar
pub mod Parts
