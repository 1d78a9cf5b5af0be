-- Laws of the tables; of one section; of the writer's judgement; of the file that runs make; of the round trip, and of what both refuse; `OneAnswers` has what
-- the public function leaves open.
pub mod SectionLaws
pub mod JudgeLaws
pub mod FileLaws
pub mod RoundTrip
pub mod RefusalLaws
pub mod OneAnswers
