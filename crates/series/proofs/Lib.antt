-- The laws of this layer: read SeriesLaws.antt and OneAnswers.antt. Reduction serves their proofs, and has what rounding makes of a magnitude.
pub mod Reduction
pub mod SeriesLaws
pub mod OneAnswers
