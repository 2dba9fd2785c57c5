-- When Novelty+ draws a second number, as the code decides it.
pub mod Noise
