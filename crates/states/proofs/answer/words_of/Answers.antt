-- Of a refusal the figures are +0, whose word is 0.
use Rattle.std.specs.Float.Ieee.{of_bits, to_bits}
use Rattle.states_arcs.specs.Results.{figures_of}
use Rattle.states.specs.Call.{answer_words}
use Rattle.states.proofs.answer.words_of.Goals as goal

pub returns-in-Err : goal.returns-in-Err
unfolding answer_words figures_of of_bits to_bits
returns-in-Err c = simp (c.in-Err.is, c.into.ensures)
