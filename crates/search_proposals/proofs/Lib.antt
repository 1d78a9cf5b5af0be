-- Each proposal lies strictly between the two places or is none; and what each public function leaves open.
pub mod Fits
pub mod OneAnswers
