-- What each export leaves open.
pub mod OneAnswers
