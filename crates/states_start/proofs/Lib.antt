-- The laws of this crate: the eight words and the start of an orbit, and what each function leaves open.
pub mod StartLaws
pub mod OneAnswers
