-- Laws of the numbers in an accepted file, of τ, of rows and their places, and what each public function leaves open.
pub mod Numbers
pub mod Tau
pub mod Rows
pub mod Own
pub mod OneAnswers
