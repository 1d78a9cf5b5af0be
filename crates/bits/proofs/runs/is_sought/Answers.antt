-- Each arm is the definition at what is sought; a zero is told by its word.
use Rattle.bits.proofs.Doubles.{zero_by_word}
use Rattle.bits.proofs.runs.is_sought.Goals as goal

pub returns-in-Zero : goal.returns-in-Zero
returns-in-Zero c = simp (c.in-Zero.is, zero_by_word)

pub returns-in-NotFinite : goal.returns-in-NotFinite
returns-in-NotFinite c = simp (c.in-NotFinite.is, c.is_finite_word.ensures)
