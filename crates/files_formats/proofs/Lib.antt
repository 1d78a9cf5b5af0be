pub mod EditionLaws
pub mod FirstLaws
pub mod TableLaws
pub mod OneAnswers
