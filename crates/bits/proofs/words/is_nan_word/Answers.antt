-- With the sign bit taken off, the words of NaNs are those above that of infinity.
use mathlib.Core.Path.{sym, ◌∙◌}
use lib.Ieee.{binary64}
use lib.Ieee.Bits.{nan_bits_is, nan_bits_above}
use Rattle.bits.proofs.words.is_nan_word.Goals as goal

pub returns : goal.returns
returns c = sym (nan_bits_above binary64 c.args.word) ∙ nan_bits_is binary64 c.args.word
