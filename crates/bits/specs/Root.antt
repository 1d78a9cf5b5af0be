-- Document 01: "Square root: the double nearest to the exact root, as IEEE 754 defines, stated over whole numbers by comparing squares. It is asked for
-- non-negative finite doubles; any other argument is refused with 9 and zero. The root of either zero is +0."
use Rattle.std.specs.Prelude.{◌≡◌, ℕ, zero, suc, ◌+◌, ◌-◌, ◌*◌, ◌^◌, ◌≤◌, ◌<◌, cond, ltb, leb, eqb, Float, Result}
use Rattle.std.specs.Float.{binary64}
use Rattle.std.specs.Float.Ieee.{of_bits, to_bits}
use Rattle.std.specs.Result.{result_unwrap_or}
use Rattle.bits.specs.declared.refusal.Refusal.{Refusal}
use Rattle.bits.specs.Choice.{pick}
use Rattle.bits.specs.Arithmetic.{n0}
use Rattle.bits.specs.Words.{units, infinity, minus_zero}

-- ---- The nearest double, by comparing squares. All lengths are counted in units of 2 ^ -1074, and doubled, so that the middle between two
-- neighbouring doubles is a whole number too.

-- Twice the exact root of the double b, squared: four times b, in units of units, is `units b * 2 ^ 1074 * 4`.
unfoldable pub root_squared : ℕ → ℕ
unfolding units
root_squared b = units b * 2 ^ 1076

-- Twice the middle between the double before w and w, squared.
unfoldable pub middle_squared : ℕ → ℕ
unfolding units
middle_squared w = (units (w - 1) + units w) * (units (w - 1) + units w)

-- r is nearest to the exact root of b: the root lies past the middle between r and the double before it, and short of the middle between r and the next.
-- Neither middle is a root of a double, so no tie has to be decided; and subnormals, powers of two and the ends of the range are like all others.
pub record NearestRoot (b r : ℕ) : Type 0 where
  pub positive : 0 < r
  pub bounded : r < infinity
  pub low : middle_squared r < root_squared b
  pub high : root_squared b < middle_squared (r + 1)

-- What the root of the double of a word answers: a refusal's number, and a word. Words from `infinity` on are those of an infinity, of a NaN, or have their
-- sign bit set.
pub record RootAnswer (word refusal root : ℕ) : Type 0 where
  pub plus_zero : word ≡ 0 → (refusal ≡ 0) × (root ≡ 0)
  pub minus_zero_lem : word ≡ minus_zero → (refusal ≡ 0) × (root ≡ 0)
  pub above_zero : 0 < word → word < infinity → (refusal ≡ 0) × NearestRoot word root
  pub otherwise : infinity ≤ word → (word ≡ minus_zero → ⊥) → (refusal ≡ 9) × (root ≡ 0)

-- The word of an answer that may be refused: +0 where it is.
abbrev pub word_in : Result ℕ Refusal → ℕ
word_in answer = result_unwrap_or answer 0

-- ---- The same answer, computed.

-- Of the words whose digits from the k-th on are set as in w, the last whose middle lies before the root.
unfoldable pub last_below : ℕ → ℕ → ℕ → ℕ
unfolding middle_squared
last_below zero goal w = w
last_below (suc k) goal w = last_below k goal (cond (ltb (middle_squared (w + 2 ^ k)) goal) (w + 2 ^ k) w)

unfoldable pub nearest_word : ℕ → ℕ
unfolding last_below root_squared
nearest_word b = last_below 63 (root_squared b) 0

abbrev pub root_refusal_of : ℕ → ℕ
root_refusal_of w = pick (leb infinity w) (pick (eqb w minus_zero) 0 9) 0

unfoldable pub root_word_of : ℕ → ℕ
unfolding nearest_word
root_word_of w = pick (leb infinity w) 0 (pick (eqb w 0) 0 (nearest_word w))

-- For a double as a number.
abbrev pub root_refusal : Float → ℕ
root_refusal x = root_refusal_of (to_bits binary64 x)

unfoldable pub root_of : Float → Float
unfolding root_word_of
root_of x = of_bits binary64 (root_word_of (to_bits binary64 x))

-- The figure of an answer that may be refused: +0 where it is.
abbrev pub figure_in : Result Float Refusal → Float
figure_in answer = result_unwrap_or answer n0
