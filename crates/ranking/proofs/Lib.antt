-- Laws of the ranking.
pub mod Ranking
