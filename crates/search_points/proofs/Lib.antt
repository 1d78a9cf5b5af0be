-- What the code's proofs cite of a point, what the sorts mean, points that are all readable (Bounds to AtRest), and what each public function leaves open.
pub mod Points
pub mod SortLaws
pub mod Bounds
pub mod Readable
pub mod AtRest
pub mod OneAnswers
