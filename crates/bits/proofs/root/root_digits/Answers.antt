use Prim.Native.Nat.{◌*◌}
use native.Mathlib.Omega.{arith}
use Rattle.bits.proofs.Digits.{Prefix, step, first_set, start, begun, small, again, finished}
use Rattle.bits.proofs.root.root_digits.Goals.{In-loop-digit, After-next_digit-known-in-loop-digit, After-next_digit-known-in-loop-digit-2}
use Rattle.bits.proofs.root.root_digits.Goals as goal

-- What is known at a turn's start, and after each of its first three steps.
known_1 : (c : In-loop-digit) → Prefix c.args.m (16 * c.loop-digit.digit) c.loop-digit.known.left c.loop-digit.known.twice
known_1 c = begun c.loop-digit.invariant c.loop-digit-test.true

known_2 : (c : After-next_digit-known-in-loop-digit) → Prefix c.args.m (8 * c.loop-digit.digit) c.next_digit-known-in-loop-digit.result.left c.next_digit-known-in-loop-digit.result.twice
known_2 c = step (omega arith) (known_1 c.before) c.next_digit-known-in-loop-digit.ensures.set c.next_digit-known-in-loop-digit.ensures.clear

known_3 : (c : After-next_digit-known-in-loop-digit-2) → Prefix c.args.m (4 * c.loop-digit.digit) c.next_digit-known-in-loop-digit-2.result.left c.next_digit-known-in-loop-digit-2.result.twice
known_3 c = step (omega arith) (known_2 c.before) c.next_digit-known-in-loop-digit-2.ensures.set c.next_digit-known-in-loop-digit-2.ensures.clear

known_4 : (c : goal.After-next_digit-known-in-loop-digit-3) → Prefix c.args.m (2 * c.loop-digit.digit) c.next_digit-known-in-loop-digit-3.result.left c.next_digit-known-in-loop-digit-3.result.twice
known_4 c = step (omega arith) (known_3 c.before) c.next_digit-known-in-loop-digit-3.ensures.set c.next_digit-known-in-loop-digit-3.ensures.clear

pub loop-digit-init : goal.loop-digit-init
loop-digit-init c = start (step (omega arith) (first_set _ c.requires.0 c.requires.1) c.next_digit-known.ensures.set c.next_digit-known.ensures.clear)

pub next_digit-known-requires-in-loop-digit-4 : goal.next_digit-known-requires-in-loop-digit-4
next_digit-known-requires-in-loop-digit-4 c = omega (arith, small (known_4 c))

pub loop-digit-preserved : goal.loop-digit-preserved
loop-digit-preserved c =
    let turn = c.before.before.before.before in
    again turn.loop-digit.invariant turn.loop-digit-test.true
    (step (omega arith) (known_4 c.before) c.next_digit-known-in-loop-digit-4.ensures.set c.next_digit-known-in-loop-digit-4.ensures.clear)

pub returns : goal.returns
returns c = finished c.loop-digit.invariant (omega arith)
