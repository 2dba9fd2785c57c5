-- What holds of the plan file and the tables. The theorems are in RoundTrip, Accepted, ReadBack and GoodTables; Good has the test of
-- tables for code, Sound what code knows of tables that pass it.

-- Tests, lists and what is lawful.
pub mod Bools
pub mod Lists
pub mod Bounds
pub mod Lawful
pub mod Naming
-- The file: what is written is read back, and what is accepted was written.
pub mod Fields
pub mod Places
pub mod WrittenRule
pub mod LockField
pub mod Sizes
pub mod WriteBytes
pub mod Order
pub mod RoundTrip
pub mod Peel
pub mod Held
pub mod Accepted
pub mod Example
-- The tables: the plan comes back from them.
pub mod Good
pub mod Spells
pub mod Sections
pub mod Arranged
pub mod WordBounds
pub mod Objective
pub mod Locks
pub mod Entries
pub mod ReadBack
pub mod Placed
pub mod LockWords
pub mod LockTold
-- The test of tables: what it says, and that it means 22.
pub mod Chains
pub mod Sound
pub mod GoodPlan
pub mod PlanGood
pub mod GoodOrder
pub mod GoodTables
pub mod IsLoaded
pub mod Within
pub mod Assignment
