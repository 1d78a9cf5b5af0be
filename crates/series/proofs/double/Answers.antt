use mathlib.Core.Path.{◌≡◌, refl, sym, ◌∙◌}
use Prim.Native.Nat.{ℕ, suc, ◌+◌, ◌-◌}
use native.Mathlib.Omega.{arith}
use lib.Ieee.{Float}
use Rattle.bits.specs.Arithmetic.{◌⊖◌, ◌⊗◌, n1, n2}
use Rattle.series.specs.Series.{doublings}
use Rattle.series.proofs.double.Goals as goal

turn : (left : ℕ) (c0 c1 : Float) → doublings (suc left) c0 c1 ≡ doublings left (n2 ⊗ (c0 ⊗ c0) ⊖ n1) (c0 ⊗ c1)
unfolding doublings
turn left c0 c1 = refl

done : (c0 c1 : Float) → doublings 0 c0 c1 ≡ record { c0 = c0; c1 = c1 }
unfolding doublings
done c0 c1 = refl

pub loop-preserved : goal.loop-preserved
loop-preserved c =
    let at = c.loop in
    let e : c.args.m - at.counter ≡ suc (c.args.m - (at.counter + 1)) = omega arith in
    sym (turn _ _ _) ∙ rw e at at.invariant

pub returns : goal.returns
returns c =
    let at = c.loop in
    let e : c.args.m - at.counter ≡ 0 = omega arith in
    sym (done _ _) ∙ rw e at at.invariant
