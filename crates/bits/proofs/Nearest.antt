-- From the 54 digits of a root to the nearest double: half of them rounded up, a power of two apart.
use mathlib.Core.Path.{◌≡◌, refl, sym, ap, ◌∙◌}
use Prim.Native.Nat.{ℕ, suc, ◌+◌, ◌-◌, ◌*◌, ◌/◌, ◌%◌, ◌^◌, ◌≤◌, ◌<◌}
use native.Mathlib.Nat.{le_refl, le_trans, le_of_eq, le_of_lt, lt_of_lt_of_le, lt_of_le_of_lt, lt_of_not-le, mul-le-mul, mul-lt-mul_of_pos_right, mul-le-mul_right, mul_assoc, mul_comm, mul_left_comm, mul-mul-mul_comm, mul-pos, one-mul, add-mul, pow-suc, not-le_of_lt}
use native.Mathlib.Decide.{dec_lt}
use native.Mathlib.Omega.{arith}
use lib.Pow.{pow_pos, pow-add}
use Rattle.bits.specs.Words.{units}
use Rattle.bits.specs.Root.{root_squared, middle_squared, NearestRoot}
use Rattle.bits.proofs.Units.{units_at, step}

-- Squares and their order.
pub root_lt : (a b : ℕ) → a * a < b * b → a < b
root_lt a b h = lt_of_not-le (λ (g : b ≤ a). not-le_of_lt h (mul-le-mul g g))

square_lt : (a b : ℕ) → a < b → a * a < b * b
square_lt a b h = lt_of_le_of_lt (mul-le-mul (le_refl a) (le_of_lt h)) (mul-lt-mul_of_pos_right h (omega arith))

-- ---- Whole numbers: n, half of q rounded up, is nearest to half the root of m * 2 ^ 54.
module _ (m q : ℕ) (lo : q * q ≤ m * 2 ^ 54) (hi : m * 2 ^ 54 < (q + 1) * (q + 1)) (M : 2 ^ 52 ≤ m) (N : m ≤ 2 ^ 54 - 2) where
  pub q_ge : 2 ^ 53 ≤ q
  q_ge = omega (arith, root_lt (2 ^ 53) (q + 1) (omega arith))

  pub q_le : q ≤ 2 ^ 54 - 2
  q_le = omega (arith, root_lt q (2 ^ 54 - 1) (omega arith))

  -- An odd q has an odd square, and m * 2 ^ 54 is even.
  not_square : (k : ℕ) → q ≡ 2 * k + 1 → q * q < m * 2 ^ 54
  not_square k e = let s : q * q ≡ (2 * k + 1) * (2 * k + 1) = ap (λ (z : ℕ). z * z) e in omega arith

  pub below : (n : ℕ) → n ≡ (q + 1) / 2 → (2 * n - 1) * (2 * n - 1) < m * 2 ^ 54
  below n e = elim (dec_lt (q % 2) 1) [
    | yes even ↦ lt_of_lt_of_le (square_lt (2 * n - 1) q (omega (arith, q_ge))) lo
    | no odd ↦
        let j : 2 * n - 1 ≡ q = omega arith in
        lt_of_le_of_lt (le_of_eq (ap (λ (z : ℕ). z * z) j)) (not_square (q / 2) (omega arith))
  ]

  pub above : (n : ℕ) → n ≡ (q + 1) / 2 → m * 2 ^ 54 < (2 * n + 1) * (2 * n + 1)
  above n e = let l : q + 1 ≤ 2 * n + 1 = omega arith in lt_of_lt_of_le hi (mul-le-mul l l)

-- ---- The scale: half of the power goes before the root.
two_halves : (e : ℕ) → (1 + e % 2) * (2 ^ (e / 2) * 2 ^ (e / 2)) ≡ 2 ^ e
two_halves e = elim (dec_lt (e % 2) 1) [
  | yes even ↦
      let a : e ≡ e / 2 + e / 2 = omega arith in
      let z : 1 + e % 2 ≡ 1 = omega arith in
      ap (λ (x : ℕ). x * (2 ^ (e / 2) * 2 ^ (e / 2))) z ∙ one-mul (2 ^ (e / 2) * 2 ^ (e / 2)) ∙ sym (pow-add 2 (e / 2) (e / 2)) ∙ ap (λ (x : ℕ). 2 ^ x) (sym a)
  | no odd ↦
      let a : e ≡ suc (e / 2 + e / 2) = omega arith in
      let z : 1 + e % 2 ≡ 2 = omega arith in
      ap (λ (x : ℕ). x * (2 ^ (e / 2) * 2 ^ (e / 2))) z ∙ ap (λ (x : ℕ). 2 * x) (sym (pow-add 2 (e / 2) (e / 2))) ∙ mul_comm 2 (2 ^ (e / 2 + e / 2)) ∙ sym (pow-suc 2 (e / 2 + e / 2)) ∙ ap (λ (x : ℕ). 2 ^ x) (sym a)
]

-- u * A = m * p with p = o * (g * g): then u * (A * (B * (c * c))) = m * o * B * ((g * c) * (g * c)).
regroup : (u A B m p o g c : ℕ) → u * A ≡ m * p → o * (g * g) ≡ p → u * (A * (B * (c * c))) ≡ m * o * B * ((g * c) * (g * c))
regroup u A B m p o g c e f =
    sym (mul_assoc u A (B * (c * c))) ∙ ap (λ (x : ℕ). x * (B * (c * c))) (e ∙ ap (λ (x : ℕ). m * x) (sym f)) ∙ simp (mul_assoc, mul_comm, mul_left_comm)

pub root_squared_is : (b m e : ℕ) → units b * 2 ^ 52 ≡ m * 2 ^ e → root_squared b ≡ m * (1 + e % 2) * 2 ^ 54 * (2 ^ (e / 2 + 485) * 2 ^ (e / 2 + 485))
unfolding root_squared
root_squared_is b m e h =
    regroup (units b) (2 ^ 52) (2 ^ 54) m (2 ^ e) (1 + e % 2) (2 ^ (e / 2)) (2 ^ 485) h (two_halves e)
    ∙ ap (λ (x : ℕ). m * (1 + e % 2) * 2 ^ 54 * (x * x)) (sym (pow-add 2 (e / 2) 485))

module _ (b x h n : ℕ) (t : root_squared b ≡ x * (2 ^ h * 2 ^ h)) (H : 1 ≤ h) (J : h ≤ 2044) (lo : (2 * n - 1) * (2 * n - 1) < x) (hi : x < (2 * n + 1) * (2 * n + 1)) (big : 2 ^ 106 ≤ x) (A : 2 ^ 52 ≤ n) (B : n < 2 ^ 53) where
  scale_pos : 0 < 2 ^ h * 2 ^ h
  scale_pos = mul-pos (pow_pos h) (pow_pos h)

  at_least : (s a : ℕ) → s ≤ a * 2 ^ h → a * a < x → s * s < root_squared b
  at_least s a l k = lt_of_le_of_lt (mul-le-mul l l) (lt_of_le_of_lt (le_of_eq (mul-mul-mul_comm a (2 ^ h) a (2 ^ h))) (lt_of_lt_of_le (mul-lt-mul_of_pos_right k scale_pos) (le_of_eq (sym t))))

  here : units (h * 2 ^ 52 + n) ≡ n * 2 ^ h
  here = units_at h n A (omega arith)

  low : middle_squared (h * 2 ^ 52 + n) < root_squared b
  unfolding middle_squared
  low = elim (dec_lt (2 ^ 52) n) [
    | yes l ↦
        let w : h * 2 ^ 52 + n - 1 ≡ h * 2 ^ 52 + (n - 1) = omega arith in
        let u : units (h * 2 ^ 52 + n - 1) ≡ (n - 1) * 2 ^ h = ap units w ∙ units_at h (n - 1) (omega arith) (omega arith) in
        let k : (n - 1) + n ≡ 2 * n - 1 = omega arith in
        let s : (n - 1) * 2 ^ h + n * 2 ^ h ≡ (2 * n - 1) * 2 ^ h = sym (add-mul (n - 1) n (2 ^ h)) ∙ ap (λ (z : ℕ). z * 2 ^ h) k in
        at_least (units (h * 2 ^ 52 + n - 1) + units (h * 2 ^ 52 + n)) (2 * n - 1) (omega (arith, u, here, s)) lo
    | no g ↦
        let e : n ≡ 2 ^ 52 = omega arith in
        let w : h * 2 ^ 52 + n - 1 + 1 ≡ h * 2 ^ 52 + n = omega arith in
        let u : units (h * 2 ^ 52 + n - 1) < n * 2 ^ h = lt_of_lt_of_le (step (h * 2 ^ 52 + n - 1)) (le_of_eq (ap units w ∙ here)) in
        let v : n * 2 ^ h ≡ 2 ^ 52 * 2 ^ h = ap (λ (z : ℕ). z * 2 ^ h) e in
        let s : units (h * 2 ^ 52 + n - 1) + units (h * 2 ^ 52 + n) < 2 ^ 53 * 2 ^ h = omega (arith, u, here, v) in
        lt_of_lt_of_le (square_lt (units (h * 2 ^ 52 + n - 1) + units (h * 2 ^ 52 + n)) (2 ^ 53 * 2 ^ h) s)
        (le_trans (le_of_eq (mul-mul-mul_comm (2 ^ 53) (2 ^ h) (2 ^ 53) (2 ^ h))) (le_trans (mul-le-mul_right (2 ^ h * 2 ^ h) big) (le_of_eq (sym t))))
  ]

  high : root_squared b < middle_squared (h * 2 ^ 52 + n + 1)
  unfolding middle_squared
  high =
      let w : h * 2 ^ 52 + n + 1 - 1 ≡ h * 2 ^ 52 + n = omega arith in
      let v : h * 2 ^ 52 + n + 1 ≡ h * 2 ^ 52 + (n + 1) = omega arith in
      let u : units (h * 2 ^ 52 + n + 1) ≡ (n + 1) * 2 ^ h = ap units v ∙ units_at h (n + 1) (omega arith) (omega arith) in
      let k : units (h * 2 ^ 52 + n + 1 - 1) + units (h * 2 ^ 52 + n + 1) ≡ (2 * n + 1) * 2 ^ h = omega (arith, u, ap units w, here) in
      lt_of_le_of_lt (le_of_eq t)
      (lt_of_lt_of_le (mul-lt-mul_of_pos_right hi scale_pos)
      (le_of_eq (sym (mul-mul-mul_comm (2 * n + 1) (2 ^ h) (2 * n + 1) (2 ^ h)) ∙ ap (λ (z : ℕ). z * z) (sym k))))

  pub nearest : NearestRoot b (h * 2 ^ 52 + n)
  nearest = record { positive = omega arith; bounded = omega arith; low = low; high = high }

-- m once or twice keeps to 54 digits.
pub shifted_small : (m e : ℕ) → 2 ^ 52 ≤ m → m < 2 ^ 53 → (2 ^ 52 ≤ m * (1 + e % 2)) × (m * (1 + e % 2) ≤ 2 ^ 54 - 2)
shifted_small m e M N = elim (dec_lt (e % 2) 1) [
  | yes even ↦ let z : m * (1 + e % 2) ≡ m * 1 = ap (λ (x : ℕ). m * x) (omega arith) in omega arith
  | no odd ↦ let z : m * (1 + e % 2) ≡ m * 2 = ap (λ (x : ℕ). m * x) (omega arith) in omega arith
]

-- What `packed_root` returns is the nearest double to the root.
pub packed : (m e q : ℕ) → 2 ^ 52 ≤ m → m < 2 ^ 53 → e ≤ 2097 → q * q ≤ m * (1 + e % 2) * 2 ^ 54 → m * (1 + e % 2) * 2 ^ 54 < (q + 1) * (q + 1)
    → (b : ℕ) → units b * 2 ^ 52 ≡ m * 2 ^ e → NearestRoot b ((e / 2 + 485) * 2 ^ 52 + (q + 1) / 2)
packed m e q M N E lo hi b h =
    let s = shifted_small m e M N in
    let n = (q + 1) / 2 in
    let x = m * (1 + e % 2) in
    nearest b (x * 2 ^ 54) (e / 2 + 485) n (root_squared_is b m e h) (omega arith) (omega arith)
    (below x q lo hi s.0 s.1 n refl)
    (above x q lo hi s.0 s.1 n refl)
    (omega (arith, s.0))
    (omega (arith, q_ge x q lo hi s.0 s.1))
    (omega (arith, q_le x q lo hi s.0 s.1))
