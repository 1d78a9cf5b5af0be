-- Which end of a pair is answered (document 02, T-01): "When the search closes on a pair, answer the end whose R has the smaller magnitude, the short one on a
-- tie." The question is asked of any two ends, whoever found them. The rule's history does not depend on it.
use Rattle.std.specs.Prelude.{◌≡◌, Bool, true, false, Float}
use Rattle.std.specs.Float.Ieee.{lt}
use Rattle.bits.specs.Choice.{pick}
use Rattle.bits.specs.Arithmetic.{magnitude}
use Rattle.search_rule.specs.declared.pair.End.{End}

-- A way to choose between a short end and a past one. Document 01 always took the short one.
abbrev pub Choosing : Type 0
Choosing = (short past : End) → End

abbrev pub short_end : Choosing
short_end short past = short

-- Magnitudes are compared as doubles, so two infinite errors are a tie.
abbrev pub is_smaller : (one other : Float) → Bool
is_smaller one other = lt (magnitude one) (magnitude other)

unfoldable pub nearer_end : Choosing
nearer_end short past = pick (is_smaller past.error short.error) past short

-- What "chosen so" means for an answer: it is the past end exactly where that has the smaller error; so neither end has a smaller error than the answer.
pub record ChosenSo (short past answer : End) : Type 0 where
  pub past_nearer : is_smaller past.error short.error ≡ true → answer ≡ past
  pub short_else : is_smaller past.error short.error ≡ false → answer ≡ short
  pub not_short : is_smaller short.error answer.error ≡ false
  pub not_past : is_smaller past.error answer.error ≡ false
