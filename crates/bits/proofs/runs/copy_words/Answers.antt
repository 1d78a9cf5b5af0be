use mathlib.Core.Path.{sym, ◌∙◌}
use Rattle.bits.proofs.RunLaws.{copied_none, copied_all}
use Rattle.bits.proofs.runs.copy_words.Goals as goal

pub returns-then-run-words : goal.returns-then-run-words
returns-then-run-words c = c.copy_from_slice.ensures.after ∙ sym (copied_all _ _ c.if-run-words.true)

pub returns-else-run-words : goal.returns-else-run-words
returns-else-run-words c = sym (copied_none _ _ c.if-run-words.false)
