-- The laws of the check of an anomaly, at any trial function (PassLaws) and at the search's (RightLaws); what the code's proofs cite (Sorted); and what the public
-- function leaves open.
pub mod Sorted
pub mod PassLaws
pub mod RightLaws
pub mod OneAnswers
