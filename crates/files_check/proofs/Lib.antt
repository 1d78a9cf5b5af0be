-- The laws of a file of rows, those of our own rows, and what the public function leaves open.
pub mod Sound
pub mod EachLaws
pub mod RowsLaws
pub mod OurRows
pub mod OneAnswers
