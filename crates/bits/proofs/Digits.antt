-- The digits of a root, one a step: what is known once those of weight u and more are found, and that a step keeps it.
use mathlib.Core.Path.{◌≡◌}
use Prim.Native.Nat.{ℕ, zero, suc, ◌+◌, ◌-◌, ◌*◌, ◌/◌, ◌^◌, ◌≤◌, ◌<◌}
use native.Mathlib.Nat.{one-le-pow, lt_of_not-le}
use native.Mathlib.Decide.{dec_le}
use native.Mathlib.Omega.{arith}

-- The root of m * 2 ^ 54 is q by its digits of weight u and more. What q * q leaves, doubled, is left * u; it is less than what the step to q + u
-- takes, doubled: (4 * q + 2 * u) * u.
pub record Prefix (m u left twice : ℕ) : Type 0 where
  pub q : ℕ
  pub double : twice ≡ 2 * q
  pub whole : left * u + 2 * (q * q) ≡ 2 * (m * 2 ^ 54)
  pub left_lt : left < 4 * q + 2 * u
  pub fits : q + u ≤ 2 ^ 54

pub small : {m u left twice : ℕ} → Prefix m u left twice → (twice + 2 * u ≤ 2 ^ 55) × (left < 2 ^ 57)
small p = omega arith

-- A step sets the digit of weight d where enough is left for it.
module _ {m d left twice : ℕ} (p : Prefix m (2 * d) left twice) where
  set_one : twice + d ≤ left → Prefix m d ((left - (twice + d)) * 2) (twice + d + d)
  set_one h =
      let e : left ≡ left - (twice + d) + (2 * p.q + d) = omega arith in
      record {
        q = p.q + d;
        double = omega arith;
        whole = from p.q (left - (twice + d)) (rw e at p.whole);
        left_lt = omega arith;
        fits = omega arith;
      }
    where
      from : (q x : ℕ) → (x + (2 * q + d)) * (2 * d) + 2 * (q * q) ≡ 2 * (m * 2 ^ 54) → x * 2 * d + 2 * ((q + d) * (q + d)) ≡ 2 * (m * 2 ^ 54)
      from q x w = omega arith

  set_none : left < twice + d → Prefix m d (left * 2) twice
  set_none h =
      record {
        q = p.q;
        double = p.double;
        whole = omega arith;
        left_lt = omega arith;
        fits = omega arith;
      }

-- By what `next_digit` ensures of what it answers.
pub step : {m u d left twice left' twice' : ℕ} → u ≡ 2 * d → Prefix m u left twice
    → (twice + d ≤ left → (left' ≡ (left - (twice + d)) * 2) × (twice' ≡ twice + d + d))
    → (left < twice + d → (left' ≡ left * 2) × (twice' ≡ twice))
    → Prefix m d left' twice'
step {d = d} {left = left} {twice = twice} e p set clear =
    let p = rw e at p in
    elim (dec_le (twice + d) left) [
      | yes h ↦ rw ((set h).0, (set h).1) (set_one p h)
      | no h ↦ let h = lt_of_not-le h in rw ((clear h).0, (clear h).1) (set_none p h)
    ]

-- The first digit that can be set, of weight 2 ^ 53, is set: m is large enough.
pub first_set : (m : ℕ) → 2 ^ 52 ≤ m → m < 2 ^ 54 → Prefix m (2 ^ 53) ((m - 2 ^ 52) * 4) (2 ^ 52 * 4)
first_set m l h = record { q = 2 ^ 53; double = omega arith; whole = omega arith; left_lt = omega arith; fits = omega arith }

-- At a turn's start u is a power of sixteen, 16 * digit, and 1 after the last turn, where digit is 0.
pub record Turn (m left twice digit : ℕ) : Type 0 where
  pub k : ℕ
  pub sixteenth : digit ≡ 16 ^ k / 16
  pub known : Prefix m (16 ^ k) left twice

pub start : {m left twice : ℕ} → Prefix m (2 ^ 52) left twice → Turn m left twice (2 ^ 52 / 16)
start p = record { k = 13; sixteenth = omega arith; known = p }

divided : (k digit : ℕ) → digit ≡ 16 ^ k / 16 → 0 < digit → (j : ℕ) × (16 ^ k ≡ 16 * digit) × (16 ^ j ≡ digit)
divided zero digit e h = (0, omega arith, omega arith)
divided (suc k) digit e h = (k, omega arith, omega arith)

last : (k digit : ℕ) → digit ≡ 16 ^ k / 16 → digit < 1 → 16 ^ k ≡ 1
last zero digit e h = omega arith
last (suc k) digit e h = omega (arith, one-le-pow k 16 (omega arith))

module _ {m left twice digit : ℕ} (t : Turn m left twice digit) where
  pub begun : 0 < digit → Prefix m (16 * digit) left twice
  begun h = rw (← (divided t.k digit t.sixteenth h).1) t.known

  pub again : {left' twice' : ℕ} → 0 < digit → Prefix m digit left' twice' → Turn m left' twice' (digit / 16)
  again h p =
      let e = divided t.k digit t.sixteenth h in
      record { k = e.0; sixteenth = omega (arith, e.2); known = rw e.2 p }

  pub finished : digit < 1 → (twice / 2 * (twice / 2) ≤ m * 2 ^ 54) × (m * 2 ^ 54 < (twice / 2 + 1) * (twice / 2 + 1))
  finished h =
      let p = rw (last t.k digit t.sixteenth h) at t.known in
      let r : twice / 2 ≡ p.q = omega arith in
      rw r (omega arith)
