-- Sums that go past clauses that are met.
mod Passing
