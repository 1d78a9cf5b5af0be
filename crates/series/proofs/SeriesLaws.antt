-- What the reduction does with every L that there is: a finite one, a NaN and an infinity.
use mathlib.Core.Path.{◌≡◌, refl, ◌∙◌, ap}
use mathlib.Core.Bool.{Bool, true, false}
use Prim.Native.Nat.{ℕ, ◌+◌, ◌-◌, ◌≤◌}
use native.Mathlib.Omega.{arith}
use lib.Ieee.{Float, nan, inf, binary64, lt, of_bits}
use lib.Ieee.Fits.{mul-fits}
use Rattle.bits.specs.Arithmetic.{◌⊗◌, is_finite}
use Rattle.series.specs.Series.{first_l, beyond_one, reduced_from, reduced}
use Rattle.series.specs.declared.figures.Anomaly.{Anomaly}
use Rattle.series.proofs.Reduction.{suffices, settled, infinite}

-- "at most 512" is no rule of its own. A finite L is brought to where |L| > 1 no longer holds,
pub enough : (alpha : Float) (psi : Anomaly) → is_finite (first_l alpha psi) ≡ true → beyond_one (reduced (first_l alpha psi)).l ≡ false
enough alpha psi finite = suffices (first_l alpha psi) (mul-fits binary64 alpha (psi.0 ⊗ psi.0)) finite

-- and any higher limit gives the same L and the same m.
pub any_higher_limit : (most : ℕ) (alpha : Float) (psi : Anomaly) → 512 ≤ most → is_finite (first_l alpha psi) ≡ true
    → reduced_from most (beyond_one (first_l alpha psi)) (first_l alpha psi) 0 ≡ reduced (first_l alpha psi)
any_higher_limit most alpha psi h finite =
    let l = first_l alpha psi in
    let e : most ≡ 512 + (most - 512) = omega arith in
    ap (λ (k : ℕ). reduced_from k (beyond_one l) l 0) e ∙ settled 512 (most - 512) (beyond_one l) l 0 refl (enough alpha psi finite)

-- A NaN is not beyond 1, so it is not divided.
pub nan_stays : reduced nan ≡ record { l = nan; m = 0 }
unfolding reduced_from beyond_one lt of_bits
nan_stays = refl

-- An infinity stays what it is, and all 512 divisions are made.
pub infinity_stays : (s : Bool) → reduced (inf s) ≡ record { l = inf s; m = 512 }
unfolding beyond_one lt of_bits
infinity_stays s = infinite 512 s 0 512 refl
