-- The laws of distances and of what is told, and what each public function leaves open.
pub mod DistanceLaws
pub mod ToldLaws
pub mod OneAnswers
