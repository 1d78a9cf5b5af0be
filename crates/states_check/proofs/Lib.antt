-- The laws of an accepted row, and what the public function leaves open.
pub mod RowLaws
pub mod OneAnswers
