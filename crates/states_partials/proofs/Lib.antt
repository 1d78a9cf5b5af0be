-- The laws of this crate.
pub mod EntryLaws
pub mod OneAnswers
