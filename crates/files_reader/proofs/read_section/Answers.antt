-- A sound section has few records, so that its count can be told.
use native.Mathlib.Omega.{arith}
use mathlib.Core.Path.{sym, ap, ◌∙◌}
use Rattle.files_words.specs.Bytes.{word_at}
use Rattle.files_reader.proofs.Accepted.{few_records}
use Rattle.files_reader.proofs.read_section.Goals as goal

pub overflow_cast-count : goal.overflow_cast-count
overflow_cast-count c =
    let a = c.args in
    let count = c.word_at-count.ensures ∙ ap (word_at a.file.now) c.place.ensures.0 in
    omega (arith, count, few_records a.file.now a.shape a.section (sym c.check_section.ensures ∙ c.in_ok-check_section.was))
