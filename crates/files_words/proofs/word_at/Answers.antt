-- By whether the word is whole.
use native.Mathlib.Omega.{arith}
use mathlib.Core.Logic.{⊎_elim}
use mathlib.Core.Path.{sym, ◌∙◌}
use Rattle.files_words.proofs.WordLaws.{word_missing, part_word}
use Rattle.files_words.proofs.word_at.Goals as goal

pub returns-in_default : goal.returns-in_default
returns-in_default c =
    let past = c.in_default.ensures.lookup.0 in
    sym (word_missing c.args.file.now c.args.place (⊎_elim (λ h. omega (arith, h)) (λ h. omega (arith, h)) past))

pub returns-in-Some-first_chunk : goal.returns-in-Some-first_chunk
returns-in-Some-first_chunk c =
    let rest = c.in-Some.ensures.lookup.0 in
    let bytes = c.in-Some-first_chunk.ensures.cases in
    c.from_le_bytes.ensures ∙ part_word c.args.file.now c.in-Some.rest.now c.in-Some-first_chunk.bytes.now c.args.place rest.2 rest.3 bytes.enough bytes.same

pub returns-in-None : goal.returns-in-None
returns-in-None c = sym (word_missing c.args.file.now c.args.place (omega (arith, c.in-None.ensures.cases, c.in-Some.ensures.lookup.0.3)))
