-- Eight bytes, the lowest first.
use mathlib.Core.Path.{◌∙◌}
use Rattle.files_words.proofs.WordLaws.{le_word}
use Rattle.files_formats.proofs.firsts.ArrayU88Word.number.Goals as goal

pub returns : goal.returns
returns c = c.from_le_bytes.ensures ∙ le_word c.args.self.now c.told-self
