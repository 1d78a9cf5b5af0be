-- The laws of a comparison, and what each public function leaves open.
pub mod Steps
pub mod Orders
pub mod Faults
pub mod Largest
pub mod Alike
pub mod RowsLaws
pub mod OneAnswers
