-- Laws of i * w; of words put into a run; of the records of a run; of records of any kind as words.
pub mod Steps
pub mod PartLaws
pub mod RecordLaws
pub mod AllLaws
pub mod OneAnswers
