-- Doubles whose magnitude is no more than a power of two, and what the four operations make of them. Rounding keeps the order, and the power is a double, so
-- none of the results is infinite or a NaN.
use Prim.Native.Nat.{ℕ, ◌+◌, ◌-◌, ◌*◌, ◌^◌, ◌≤◌, ◌<◌}
use mathlib.Core.Path.{◌≡◌, refl, sym, ap, subst}
use mathlib.Core.Bool.{Bool, true, false, cond, ◌&&◌, beq}
use native.Mathlib.Omega.{arith}
use native.Mathlib.Nat.{le_trans, mul-pos, mul-le-mul, mul-le-mul_left, mul-le-mul_right}
use borrow.Author.Tests.{eq-eqb, ne_eqb}
use lib.Dec.{ltb, eqb}
use lib.Pow.{pow-add, pow_mono, pow_pos}
use lib.Ieee.{Float, nan, inf, fin, binary64, up, down, unlike, round, sum, add, sub, neg, mul, div, eq, ne}
use lib.Ieee.Fits.{down_pos}
use Rattle.bits.specs.Arithmetic.{◌⊕◌, ◌⊖◌, ◌⊗◌, ◌⊘◌, is_finite}
use Rattle.series.proofs.Reduction.{Within, rounded}

-- Finite, and at least 2 ^ k in magnitude.
abbrev pub AtLeast : ℕ → Float → Type 0
AtLeast k nan = ⊥
AtLeast k (inf s) = ⊥
AtLeast k (fin s m e) = 2 ^ k * down e ≤ m * up e

pub wider : (j k : ℕ) (x : Float) → j ≤ k → Within j x → Within k x
wider j k nan h w = absurd w
wider j k (inf s) h w = absurd w
wider j k (fin s m e) h w = le_trans w (mul-le-mul_right (down e) (pow_mono h))

pub within_finite : (j : ℕ) (x : Float) → Within j x → is_finite x ≡ true
within_finite j nan w = absurd w
within_finite j (inf s) w = absurd w
within_finite j (fin s m e) w = refl

pub within_no_nan : (j : ℕ) (x : Float) → Within j x → ne x x ≡ false
unfolding ne eq
within_no_nan j nan w = absurd w
within_no_nan j (inf s) w = absurd w
within_no_nan j (fin true m e) w = rw (eq-eqb (m * up e * down e) (m * up e * down e) refl)
within_no_nan j (fin false m e) w = rw (eq-eqb (m * up e * down e) (m * up e * down e) refl)

pub within_neg : (j : ℕ) (x : Float) → Within j x → Within j (neg x)
unfolding neg
within_neg j nan w = w
within_neg j (inf s) w = w
within_neg j (fin s m e) w = w

-- ---- The operations.
pub product : (j k : ℕ) (x y : Float) → j + k < 1024 → Within j x → Within k y → Within (j + k) (x ⊗ y)
unfolding mul
product j k nan y h v w = absurd v
product j k (inf s) y h v w = absurd v
product j k (fin s m e) nan h v w = absurd w
product j k (fin s m e) (inf t) h v w = absurd w
product j k (fin s m e) (fin t n d) h v w =
    let p : 2 ^ (j + k) * (down e * down d) ≡ 2 ^ j * 2 ^ k * (down e * down d) = ap (λ (z : ℕ). z * (down e * down d)) (pow-add 2 j k) in
    rounded (j + k) (unlike s t) (m * up e * (n * up d)) (down e * down d) h (mul-pos (down_pos e) (down_pos d)) (omega (arith, mul-le-mul v w))

sum_within : (j : ℕ) (s t : Bool) (a b c : ℕ) → j + 1 < 1024 → 0 < c → a ≤ 2 ^ j * c → b ≤ 2 ^ j * c → Within (j + 1) (sum binary64 s a t b c)
unfolding sum
sum_within j s t a b c J C v w =
    let p : 2 ^ (j + 1) * c ≡ 2 ^ j * 2 * c = ap (λ (z : ℕ). z * c) (pow-add 2 j 1) in
    go (beq s t) (ltb a b) (omega arith) (omega arith) (omega arith)
  where
    go : (like less : Bool) → a + b ≤ 2 ^ (j + 1) * c → b - a ≤ 2 ^ (j + 1) * c → a - b ≤ 2 ^ (j + 1) * c
        → Within (j + 1) (cond like (round binary64 s (a + b) c) (cond less (round binary64 t (b - a) c) (round binary64 (s && ltb b a) (a - b) c)))
    go true less f g h = rounded (j + 1) s (a + b) c J C f
    go false true f g h = rounded (j + 1) t (b - a) c J C g
    go false false f g h = rounded (j + 1) (s && ltb b a) (a - b) c J C h

pub total : (j : ℕ) (x y : Float) → j + 1 < 1024 → Within j x → Within j y → Within (j + 1) (x ⊕ y)
unfolding add
total j nan y h v w = absurd v
total j (inf s) y h v w = absurd v
total j (fin s m e) nan h v w = absurd w
total j (fin s m e) (inf t) h v w = absurd w
total j (fin s m e) (fin t n d) h v w =
    sum_within j s t (m * up e * down d) (n * up d * down e) (down e * down d) h (mul-pos (down_pos e) (down_pos d))
    (omega (arith, mul-le-mul_right (down d) v))
    (omega (arith, mul-le-mul_right (down e) w))

pub difference : (j : ℕ) (x y : Float) → j + 1 < 1024 → Within j x → Within j y → Within (j + 1) (x ⊖ y)
unfolding sub
difference j x y h v w = total j x (neg y) h v (within_neg j y w)

pub quotient : (j k : ℕ) (x y : Float) → j < 1024 → Within (j + k) x → AtLeast k y → Within j (x ⊘ y)
unfolding div
quotient j k nan y h v w = absurd v
quotient j k (inf s) y h v w = absurd v
quotient j k (fin s m e) nan h v w = absurd w
quotient j k (fin s m e) (inf t) h v w = absurd w
quotient j k (fin s m e) (fin t n d) h v w =
    let p : 2 ^ (j + k) * down e * down d ≡ 2 ^ j * 2 ^ k * down e * down d = ap (λ (z : ℕ). z * down e * down d) (pow-add 2 j k) in
    let q : 0 < 2 ^ k * down d = mul-pos (pow_pos k) (down_pos d) in
    let r : 0 < n * up d * down e = mul-pos (le_trans q w) (down_pos e) in
    subst (λ (b : Bool). Within j (cond b (cond (eqb m 0) nan (inf (unlike s t))) (round binary64 (unlike s t) (m * up e * down d) (n * up d * down e))))
    (sym (ne_eqb n 0 (λ z. omega (arith, q, w, ap (λ (x : ℕ). x * up d) z))))
    (rounded j (unlike s t) (m * up e * down d) (n * up d * down e) h r (omega (arith, mul-le-mul_right (down d) v, mul-le-mul_left (2 ^ j * down e) w)))
