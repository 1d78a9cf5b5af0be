-- The double of each word, their difference, its word.
use mathlib.Core.Path.{◌∙◌, ap, ap₂}
use lib.Ieee.{binary64, to_bits}
use Rattle.bits.specs.Arithmetic.{◌⊖◌}
use Rattle.files_results.proofs.requests.tau_of.Goals as goal

pub returns : goal.returns
returns c = c.word_of.ensures ∙ ap (to_bits binary64) (ap₂ ◌⊖◌ c.double_of.ensures c.double_of-2.ensures)
