-- Document 02, T-07: "the distance in last places, taken on the number line of finite doubles where both zeros are one place". The line is that of
-- `bits`: `line_of` is the index of a word on it.
use Rattle.std.specs.Prelude.{◌≡◌, true, ℕ, ◌+◌, ◌-◌, ◌*◌, ◌^◌, ◌≤◌, ◌<◌}
use Rattle.std.specs.Float.{binary64}
use Rattle.std.specs.Float.Ieee.{lt, eq, of_bits}
use Rattle.bits.specs.Arithmetic.{is_finite}
use Rattle.bits.specs.Words.{infinity}
use Rattle.bits.specs.Line.{line_of}

-- How far two words are apart on the line. One of the two differences is 0, since a difference below zero counts as 0.
abbrev pub distance_of : (v w : ℕ) → ℕ
distance_of v w = (line_of v - line_of w) + (line_of w - line_of v)

-- ---- What a distance means for the numbers.

-- A word of a finite double.
pub record Finite (w : ℕ) : Type 0 where
  pub is_word : w < 2 ^ 64
  pub is_finite_lem : is_finite (of_bits binary64 w) ≡ true

abbrev pub Less : (v w : ℕ) → Type 0
Less v w = lt (of_bits binary64 v) (of_bits binary64 w) ≡ true

abbrev pub Symmetric : Type 0
Symmetric = (v w : ℕ) → distance_of v w ≡ distance_of w v

-- 0 exactly for equal numbers; both zeros are equal.
abbrev pub Equal : (v w : ℕ) → Type 0
Equal v w = eq (of_bits binary64 v) (of_bits binary64 w) ≡ true

abbrev pub ZeroForEqual : Type 0
ZeroForEqual = (v w : ℕ) → Finite v → Finite w → (distance_of v w ≡ 0 → Equal v w) × (Equal v w → distance_of v w ≡ 0)

-- The next double is at distance 1, and no other is: w is the next above v where no double is between them.
pub record IsNext (v w : ℕ) : Type 0 where
  pub above : Less v w
  pub none_between : (u : ℕ) → Finite u → Less v u → Less u w → ⊥

abbrev pub NextIsOne : Type 0
NextIsOne = (v w : ℕ) → Finite v → Finite w → (IsNext v w → distance_of v w ≡ 1) × (Less v w → distance_of v w ≡ 1 → IsNext v w)

-- It is the number of steps: where u is not below v nor above w, the steps from v to w are those from v to u and those from u to w.
abbrev pub AddsUp : Type 0
AddsUp =
    (v u w : ℕ) → Finite v → Finite u → Finite w →
    (Less u v → ⊥) → (Less w u → ⊥) → distance_of v w ≡ distance_of v u + distance_of u w

-- It fits a word: the largest is from the lowest finite double to the highest.
abbrev pub FitsWord : Type 0
FitsWord = (v w : ℕ) → Finite v → Finite w → (distance_of v w ≤ 2 * (infinity - 1)) × (distance_of v w < 2 ^ 64)
