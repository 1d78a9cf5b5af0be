-- Laws of the refusals and of changes, of the states in use, of entries and of lists of them.
pub mod RefusalLaws
pub mod OrderLaws
pub mod ChangeLaws
pub mod StateLaws
pub mod EntryLaws
pub mod ExtremeLaws
pub mod AnewLaws
pub mod BackLaws
pub mod RightLaws
pub mod WordLaws
pub mod OneListLaws
pub mod SummaryLaws
pub mod OneAnswers
pub mod PromiseLaws
