-- The law `moved_up` of Leading.antt, at the argument's leading zeros; 53 digits fit the word.
use mathlib.Core.Path.{◌≡◌}
use Prim.Native.Nat.{ℕ, ◌-◌, ◌*◌, ◌%◌, ◌^◌, ◌<◌}
use native.Mathlib.Omega.{arith}
use Rattle.bits.proofs.Leading.{Normalised, up, up_small, moved_up}
use Rattle.bits.proofs.root.normalised.Goals as goal

moved : (t : ℕ) → 0 < t → t < 2 ^ 52 → Normalised t ((t * 2 ^ up t) % 2 ^ 64) (52 - up t)
moved t a b =
    let n = moved_up t a (omega arith) in
    let w : (t * 2 ^ up t) % 2 ^ 64 ≡ t * 2 ^ up t = omega (arith, n.2) in
    rw w n

pub overflow_sub-up : goal.overflow_sub-up
overflow_sub-up c = (up_small (omega arith) (omega arith)).0

pub invariant_of-result : goal.invariant_of-result
invariant_of-result c =
    let n = moved _ c.requires.0 c.requires.1 in
    record { has_53_digits = (n.1, n.2); in_range = omega (arith, n.3) }

pub returns : goal.returns
returns c = (moved _ c.requires.0 c.requires.1).0
