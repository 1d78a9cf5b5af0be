-- The invariant: `known` has the digits above the turn's four, and what their square leaves.
use Rattle.bits.proofs.Digits.{Turn}
use Rattle.bits.proofs.root.root_digits.Given as goal

abbrev pub invariant-loop-digit : goal.invariant-loop-digit
invariant-loop-digit l = Turn l.m l.known.left l.known.twice l.digit

abbrev pub decreases-loop-digit : goal.decreases-loop-digit
decreases-loop-digit l = l.digit
