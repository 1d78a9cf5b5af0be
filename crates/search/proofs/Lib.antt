-- What document 01's search promises, which layer 4 cites (Instance), that its premise can be met, and what its public function leaves open.
pub mod Instance
pub mod Witness
pub mod OneAnswers
