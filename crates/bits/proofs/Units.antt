-- `units` grows with the word, and so does what is half way to the word before.
use mathlib.Core.Path.{◌≡◌, sym, ap, ap₂, ◌∙◌, subst}
use mathlib.Core.Logic.{⊎_elim}
use Prim.Native.Nat.{ℕ, suc, ◌+◌, ◌-◌, ◌*◌, ◌/◌, ◌%◌, ◌^◌, ◌≤◌, ◌<◌}
use native.Mathlib.Nat.{le_refl, le_trans, le_of_lt, pow-suc, mul-le-mul, eq-or-lt_of_le}
use native.Mathlib.Decide.{dec_lt, le_ind}
use native.Mathlib.Numerals.{add-one}
use native.Mathlib.Omega.{arith}
use lib.Pow.{pow_pos}
use Rattle.bits.specs.Words.{scaled, units}
use Rattle.bits.specs.Root.{middle_squared}

-- A word by its exponent field less one, h, and its 53 digits n, the leading one among them.
below_top : (h n : ℕ) → 2 ^ 52 ≤ n → n < 2 ^ 53 → units (h * 2 ^ 52 + n) ≡ n * 2 ^ h
unfolding units
below_top h n a b =
    let f : (h * 2 ^ 52 + n) / 2 ^ 52 ≡ suc h = omega arith in
    let t : (h * 2 ^ 52 + n) % 2 ^ 52 ≡ n - 2 ^ 52 = omega arith in
    let s : 2 ^ 52 + (n - 2 ^ 52) ≡ n = omega arith in
    ap₂ scaled f t ∙ ap (λ (x : ℕ). x * 2 ^ h) s

-- It holds where the digits carry into the field too.
pub units_at : (h n : ℕ) → 2 ^ 52 ≤ n → n ≤ 2 ^ 53 → units (h * 2 ^ 52 + n) ≡ n * 2 ^ h
units_at h n a b = ⊎_elim top (below_top h n a) (eq-or-lt_of_le b)
  where
    top : n ≡ 2 ^ 53 → units (h * 2 ^ 52 + n) ≡ n * 2 ^ h
    top e =
        let w : h * 2 ^ 52 + n ≡ suc h * 2 ^ 52 + 2 ^ 52 = omega arith in
        ap units w ∙ below_top (suc h) (2 ^ 52) (le_refl (2 ^ 52)) (omega arith)
        ∙ ap (λ (x : ℕ). 2 ^ 52 * x) (pow-suc 2 h) ∙ (omega arith) ∙ ap (λ (x : ℕ). x * 2 ^ h) (sym e)

subnormal : (w : ℕ) → w < 2 ^ 52 → units w ≡ w
unfolding units
subnormal w h =
    let f : w / 2 ^ 52 ≡ 0 = omega arith in
    let t : w % 2 ^ 52 ≡ w = omega arith in
    ap₂ scaled f t

-- A subnormal's word, and that of the first normal binade, is its value.
pub small : (n : ℕ) → n ≤ 2 ^ 53 → units n ≡ n
small n b = elim (dec_lt n (2 ^ 52)) [
  | yes l ↦ subnormal n l
  | no g ↦
      let w : n ≡ 0 * 2 ^ 52 + n = omega arith in
      ap units w ∙ units_at 0 n (omega arith) b ∙ (omega arith)
]

pub step : (w : ℕ) → units w < units (w + 1)
step w = elim (dec_lt w (2 ^ 52)) [
  | yes l ↦ omega (arith, small w (omega arith), small (w + 1) (omega arith))
  | no g ↦
      let h = w / 2 ^ 52 - 1 in
      let n = w % 2 ^ 52 + 2 ^ 52 in
      let a : w ≡ h * 2 ^ 52 + n = omega arith in
      let b : w + 1 ≡ h * 2 ^ 52 + (n + 1) = omega arith in
      let x : units w ≡ n * 2 ^ h = ap units a ∙ units_at h n (omega arith) (omega arith) in
      let y : units (w + 1) ≡ (n + 1) * 2 ^ h = ap units b ∙ units_at h (n + 1) (omega arith) (omega arith) in
      omega (arith, x, y, pow_pos h)
]

pub grows : (v w : ℕ) → v ≤ w → units v ≤ units w
grows v w h =
    le_ind (λ (m : ℕ). units v ≤ units m) (le_refl (units v))
    (λ m k e. le_trans e (subst (λ (x : ℕ). units m ≤ units x) (add-one m) (le_of_lt (step m)))) w h

pub middle_grows : (v w : ℕ) → v ≤ w → middle_squared v ≤ middle_squared w
unfolding middle_squared
middle_grows v w h =
    let a : units (v - 1) + units v ≤ units (w - 1) + units w = omega (arith, grows v w h, grows (v - 1) (w - 1) (omega arith)) in
    mul-le-mul a a
