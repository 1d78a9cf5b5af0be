pub mod CheckLaws
pub mod WalkLaws
pub mod CountedLaws
pub mod OneAnswers
