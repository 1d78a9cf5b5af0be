-- Laws of words and bytes, then of bytes put into a room.
pub mod WordLaws
pub mod PutLaws
pub mod OneAnswers
