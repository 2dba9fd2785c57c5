-- The words of the contracts by which the plan file of two lists is written.
pub mod Draft
