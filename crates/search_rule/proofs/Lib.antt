-- The laws of the history, for any trial function and any proposal (Counts to Refusals), of the end that is answered (Nearest), and that what they ask for can be had
-- (OneByOne, ToyWitness); what the code's proofs cite (Turns); and what each public function leaves open.
pub mod Counts
pub mod Rounds
pub mod Reach
pub mod Refusals
pub mod Nearest
pub mod OneByOne
pub mod ToyWitness
pub mod Turns
pub mod OneAnswers
