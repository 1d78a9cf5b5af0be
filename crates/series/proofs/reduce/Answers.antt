use mathlib.Core.Path.{◌≡◌, refl, sym, ◌∙◌}
use mathlib.Core.Bool.{Bool, true, false}
use Prim.Native.Nat.{ℕ, suc, ◌+◌, ◌-◌}
use native.Mathlib.Omega.{arith}
use lib.Ieee.{Float}
use Rattle.bits.specs.Arithmetic.{◌⊘◌}
use Rattle.series.specs.Constants.{n4}
use Rattle.series.specs.Series.{beyond_one, reduced_from}
use Rattle.series.proofs.Reduction.{stays}
use Rattle.series.proofs.reduce.Goals as goal

turn : (most : ℕ) (again : Bool) (l : Float) (m : ℕ) → true ≡ again → reduced_from (suc most) again l m ≡ reduced_from most (beyond_one (l ⊘ n4)) (l ⊘ n4) (m + 1)
unfolding reduced_from
turn most true l m e = refl
turn most false l m e = cc

spent : (again : Bool) (l : Float) (m : ℕ) → reduced_from 0 again l m ≡ record { l = l; m = m }
unfolding reduced_from
spent again l m = refl

pub loop-m-preserved : goal.loop-m-preserved
loop-m-preserved c =
    let at = c.loop-m in
    let e : 512 - at.m ≡ suc (512 - (at.m + 1)) = omega arith in
    sym (turn _ _ _ _ c.if-not-beyond_one.ensures) ∙ rw e at at.invariant

pub returns-then-not-beyond_one : goal.returns-then-not-beyond_one
returns-then-not-beyond_one c = sym (stays _ _ _ _ (sym c.if-not-beyond_one.ensures)) ∙ c.loop-m.invariant

pub returns : goal.returns
returns c =
    let at = c.loop-m in
    let m : at.m ≡ 512 = omega arith in
    let i = rw m at at.invariant in
    sym (spent _ _ _) ∙ i
