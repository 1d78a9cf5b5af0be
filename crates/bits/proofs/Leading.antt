-- Up to 53 digits, moved up by their leading zeros so that there are 53.
use mathlib.Core.Path.{◌≡◌, sym, ap, ◌∙◌}
use Prim.Native.Nat.{ℕ, suc, ◌+◌, ◌-◌, ◌*◌, ◌^◌, ◌≤◌, ◌<◌}
use native.Mathlib.Nat.{le_trans, le_of_eq, lt_of_not-le, not-le_of_lt, lt_of_lt_of_le, mul-le-mul_right, mul_assoc}
use native.Mathlib.Omega.{arith}
use lib.Count.{count_leading_zeros, leading_top}
use lib.Pow.{pow_mono, pow-add, shl_lt}

-- How far the digits t go up: 11 of the 64 places stay empty above 53 digits.
abbrev pub up : ℕ → ℕ
up t = count_leading_zeros 64 t - 11

-- Digits with 53 of them, and a power: together they are t * 2 ^ 52.
abbrev pub Normalised : ℕ → ℕ → ℕ → Type 0
Normalised t m e = (m * 2 ^ e ≡ t * 2 ^ 52) × (2 ^ 52 ≤ m) × (m < 2 ^ 53) × (e ≤ 52)

-- The leading one of a number above zero stands at some place j, and all above it are zeros.
leading : (t : ℕ) → 0 < t → t < 2 ^ 53 → (j : ℕ) × (count_leading_zeros 64 t + suc j ≡ 64) × (2 ^ j ≤ t) × (t < 2 ^ suc j) × (j < 53)
leading t T S =
    let (j, z, lo, hi) = leading_top 64 t T (omega arith) in
    (j, z, lo, hi, lt_of_not-le (λ (g : 53 ≤ j). not-le_of_lt S (le_trans (pow_mono g) lo)))

pub up_small : {t : ℕ} → 0 < t → t < 2 ^ 53 → (11 ≤ count_leading_zeros 64 t) × (up t ≤ 52)
up_small {t} T S = let (j, z, lo, hi, J) = leading t T S in (omega arith, omega arith)

pub moved_up : (t : ℕ) → 0 < t → t < 2 ^ 53 → Normalised t (t * 2 ^ up t) (52 - up t)
moved_up t T S =
    let (j, z, lo, hi, J) = leading t T S in
    let a : j + up t ≡ 52 = omega arith in
    let b : suc j + up t ≡ 53 = omega arith in
    let c : up t + (52 - up t) ≡ 52 = omega arith in (
      mul_assoc t (2 ^ up t) (2 ^ (52 - up t)) ∙ ap (λ (x : ℕ). t * x) (sym (pow-add 2 (up t) (52 - up t)) ∙ ap (λ (x : ℕ). 2 ^ x) c),
      le_trans (le_of_eq (sym (sym (pow-add 2 j (up t)) ∙ ap (λ (x : ℕ). 2 ^ x) a))) (mul-le-mul_right (2 ^ up t) lo),
      lt_of_lt_of_le (shl_lt (suc j) (up t) hi) (le_of_eq (ap (λ (x : ℕ). 2 ^ x) b)),
      omega arith,
    )
