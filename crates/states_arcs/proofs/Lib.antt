-- The laws of this crate: what `ended` leaves open, and what each public function does.
pub mod EndLaws
pub mod OneAnswers
