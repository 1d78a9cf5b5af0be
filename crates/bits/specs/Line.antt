-- The line of doubles: a place for every word but those of NaNs, in the order of the numbers (`in_order`). Both zeros are one place, in the middle; the
-- infinities stand at the ends. A word with its sign bit set is as far below the middle as the same word without it is above.
use Rattle.std.specs.Prelude.{Bool, ℕ, ◌+◌, ◌-◌, ◌%◌, ◌^◌, ltb}
use Rattle.std.specs.Float.{binary64}
use Rattle.std.specs.Float.Ieee.{is_nan, of_bits}
use Rattle.bits.specs.Choice.{pick}
use Rattle.bits.specs.Words.{minus_zero}

-- Whether a word is a NaN's.
abbrev pub is_nan_word : ℕ → Bool
is_nan_word w = is_nan (of_bits binary64 w)

-- The place of a word on the line, 2 ^ 63 for both zeros; and the word at a place, +0 for the zeros'. No word is at place 0.
abbrev pub line_of : ℕ → ℕ
line_of w = pick (ltb w minus_zero) (minus_zero + w) (2 ^ 64 - w)

abbrev pub word_on : ℕ → ℕ
word_on place = pick (ltb place minus_zero) (minus_zero + (minus_zero - place) % minus_zero) (place - minus_zero)
