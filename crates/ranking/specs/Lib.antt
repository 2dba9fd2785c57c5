-- The first two of the ranked variables, as the code keeps them.
pub mod Ranking
