-- By how many words are whole.
use native.Mathlib.Omega.{arith}
use Rattle.files_words.proofs.WordLaws.{length-words_from}
use Rattle.files_checks.proofs.words_there.Goals as goal

pub returns : goal.returns
returns c = omega (arith, c.min.ensures, c.saturating_sub-whole.ensures, length-words_from c.args.file.now c.args.place)
