-- The words of the row are those at its place in the file.
use Rattle.std.specs.Prelude.{ℕ, ◌≡◌, ◌+◌, ◌*◌, ◌≤◌, ◌<◌, List, length}
use Rattle.std.proofs.Common.{ap, ◌∙◌, arith}
use Rattle.files_words.specs.Bytes.{word_at}
use Rattle.files_words.proofs.WordLaws.{word_in_part}
use Rattle.files_formats.specs.Rows.{checked_width, checked_place, given_words, checked_anomaly, checked_figure, checked_figures}
use Rattle.files_check.specs.RowsFile.{row_at, fields_at, given_at, proposed_at, nine_at, verdict_of}
use Rattle.files_check.proofs.EachLaws.{each_same}
use Rattle.files_check.proofs.verdict_at.Goals as goal

module _ (file : List ℕ) (k : ℕ) (there : checked_place k + 8 * checked_width ≤ length file) where
  word : (at : ℕ) → at + 8 ≤ 8 * checked_width → word_at (row_at file k) at ≡ word_at file (checked_place k + at)
  unfolding row_at
  word at h = word_in_part file (checked_place k) (8 * checked_width) at h there

  fields : (column n place : ℕ) → column + n ≤ checked_width → place ≡ checked_place k + 8 * column → fields_at (row_at file k) (8 * column) n ≡ fields_at file place n
  fields column n place h e =
      each_same _ _ n (λ j l.
      let at : checked_place k + (8 * column + 8 * j) ≡ place + 8 * j = omega arith in
      word (8 * column + 8 * j) (omega arith) ∙ ap (word_at file) at)

pub returns : goal.returns
returns c =
    let file = c.args.file.now in
    let k = c.args.k in
    let given : fields_at (row_at file k) 0 given_words ≡ given_at file (checked_place k) = fields file k c.requires 0 given_words (checked_place k) (omega arith) (omega arith) in
    let nine : fields_at (row_at file k) (8 * checked_figure) checked_figures ≡ nine_at file (checked_place k) =
    fields file k c.requires checked_figure checked_figures (checked_place k + 8 * checked_figure) (omega arith) (omega arith)
    in
    let anomaly : word_at (row_at file k) (8 * checked_anomaly) ≡ proposed_at file (checked_place k) = word file k c.requires (8 * checked_anomaly) (omega arith) in
    rw (c.verdict_of.ensures, c.read_fields.ensures, c.word_at.ensures, c.read_fields-2.ensures, c.row_at-row.ensures)
    (λ i. verdict_of (given i) (anomaly i) (nine i))
