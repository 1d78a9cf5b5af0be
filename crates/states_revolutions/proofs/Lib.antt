-- The laws of this crate: the floor, what comes off an interval, and what each public function leaves open.
pub mod FloorLaws
pub mod FloorMeaning
pub mod RevolutionLaws
pub mod OneAnswers
