-- What an accepted file is; `OneAnswers` has what the public function leaves open.
pub mod Accepted
pub mod OneAnswers
