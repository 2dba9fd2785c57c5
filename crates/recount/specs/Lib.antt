-- What opening and flip need of tables and assignment, and what they leave of the tallies, word by word.
pub mod Core
-- What two tables that are lent say.
pub mod Plans
