-- Laws of the choice by Novelty+.
pub mod Choosing
