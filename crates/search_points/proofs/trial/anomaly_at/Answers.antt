-- The tests are those of the definition; a zero divided by a zero is the NaN; the sign is one more in the word.
use native.Mathlib.Omega.{arith}
use borrow.Author.Tests.{le-leb, lt-leb}
use lib.Ieee.{div, lt, of_bits}
use Rattle.bits.specs.Arithmetic.{n0}
use Rattle.bits.proofs.Doubles.{no_nan_bits}
use Rattle.search_points.specs.Trial.{anomaly_at}
use Rattle.search_points.proofs.Points.{signed_word, sign_bound, signed_field}
use Rattle.search_points.proofs.trial.anomaly_at.Goals as goal

pub returns-then-place-ge-INFINITY : goal.returns-then-place-ge-INFINITY
unfolding anomaly_at div of_bits
returns-then-place-ge-INFINITY c = simp (le-leb _ _ c.if-place-ge-INFINITY.true)

pub overflow_add-result : goal.overflow_add-result
unfolding anomaly_at div of_bits
overflow_add-result c = let a = c.args in omega (arith, sign_bound (lt a.tau.0 n0), c.sign_of.ensures)

pub float_from_bits-result : goal.float_from_bits-result
unfolding anomaly_at div of_bits
float_from_bits-result c = let a = c.args in rw c.sign_of.ensures (no_nan_bits _ (signed_field (lt a.tau.0 n0) a.place (omega arith)))

pub returns : goal.returns
unfolding anomaly_at
returns c =
    let a = c.args in
    simp (lt-leb _ _ c.if-place-ge-INFINITY.false, c.sign_of.ensures, signed_word (lt a.tau.0 n0) a.place (omega arith))
