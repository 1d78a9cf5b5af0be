-- Document 02, T-07: "Read two result files. For each row and figure tell the distance in last places .., and the row and word of the first largest distance."
-- "Refusals: 21, 22, 23 and 25, left file first .., then 51 row counts differ."
use Rattle.std.specs.Prelude.{Bool, Option, Some, None, Result, Ok, Err, List, [], ◌∷◌, ◌++◌, ℕ, zero, suc, ◌+◌, ◌*◌, eqb, leb, length, take, drop}
use Rattle.bits.specs.declared.refusal.Refusal.TheVariants.{CountsDiffer, RoomTooShort}
use Rattle.files_words.specs.Bytes.{word_at}
use Rattle.files_checks.specs.Checks.{Check, need, ◌⟫◌, edition_check, filled_check}
use Rattle.files_formats.specs.Rows.{result_edition, result_count_place, result_width, most_results, result_place}
use Rattle.files_formats.specs.Rows.{result_refusal, result_figure, result_figures, told_width}
use Rattle.files_differences.specs.declared.told.RowKind.{RowKind}
use Rattle.files_differences.specs.declared.told.Figure.{Figure}
use Rattle.files_differences.specs.declared.told.Largest.{Largest}
use Rattle.files_differences.specs.declared.told.Side.TheVariants as side
use Rattle.files_differences.specs.declared.told.Side.{Side}
use Rattle.files_differences.specs.declared.told.Compared.{Compared}
use Rattle.files_differences.specs.declared.told.Refused.{Refused}
use Rattle.files_differences.specs.Told.{row_kind_of, row_kind_word, figure_in, figure_words, largest_with, comparison_words}

-- ---- A result file: its edition, a count of at most 1,500 rows, those rows, whose words may hold any bits, and nothing behind them.
abbrev pub edition_known : List ℕ → Bool
edition_known file = eqb (word_at file 0) result_edition

unfoldable pub results_check : List ℕ → Check
unfolding edition_check filled_check
results_check file = edition_check file (edition_known file) ⟫ filled_check file result_count_place most_results result_width

abbrev pub row_count : List ℕ → ℕ
row_count file = word_at file result_count_place

-- ---- Two rows, by their bytes. Word n of a row:
abbrev pub word_on : (row : List ℕ) (n : ℕ) → ℕ
word_on row n = word_at row (8 * n)

module _ (l r : List ℕ) where
  -- What the two rows are; and what is said of their figure j, from 0.
  abbrev pub kind_on : RowKind
  kind_on = row_kind_of (word_on l result_refusal) (word_on r result_refusal)

  abbrev pub figure_on : (j : ℕ) → Figure
  figure_on j = figure_in kind_on (word_on l (result_figure + j)) (word_on r (result_figure + j))

  -- The words of their first n figures, a kind and a distance each; and all that is told of two rows.
  unfoldable pub figures_told : (n : ℕ) → List ℕ
  figures_told zero = []
  figures_told (suc n) = figures_told n ++ figure_words (figure_on n)

  abbrev pub row_told : List ℕ
  row_told = row_kind_word kind_on ∷ figures_told result_figures

  -- The first largest distance of the first n figures of rows k and of those known before.
  unfoldable pub largest_in_row : Option Largest → (k n : ℕ) → Option Largest
  largest_in_row known k zero = known
  largest_in_row known k (suc n) = largest_with (largest_in_row known k n) k (result_figure + n) (figure_on n)

-- ---- "For each row and figure". Row k of a file:
unfoldable pub row_at : List ℕ → (k : ℕ) → List ℕ
row_at file k = take (8 * result_width) (drop (result_place k) file)

module _ (left right : List ℕ) where
  abbrev pub row_kind_at : (k : ℕ) → RowKind
  row_kind_at k = kind_on (row_at left k) (row_at right k)

  abbrev pub figure_at : (k j : ℕ) → Figure
  figure_at k j = figure_on (row_at left k) (row_at right k) j

  -- What is said of the first n rows, and the first largest distance in them.
  unfoldable pub rows_told : (n : ℕ) → List ℕ
  rows_told zero = []
  rows_told (suc n) = rows_told n ++ row_told (row_at left n) (row_at right n)

  unfoldable pub largest_of : (n : ℕ) → Option Largest
  largest_of zero = None
  largest_of (suc n) = largest_in_row (row_at left n) (row_at right n) (largest_of n) n result_figures

-- How many words are told for all rows of a file.
abbrev pub words_needed : (left : List ℕ) → ℕ
words_needed left = row_count left * told_width

-- ---- What is answered. "21, 22, 23 and 25, left file first .., then 51 row counts differ", then 26 where the lent run is too short, with the words needed.
abbrev pub unless_fault : {T : Type 0} → Option Side → Check → Result T Refused → Result T Refused
unless_fault s (Ok sound) next = next
unless_fault s (Err fault) next = Err (record { fault = fault; side = s })

unfoldable pub comparison_of : (left right : List ℕ) (room : ℕ) → Result Compared Refused
unfolding results_check
comparison_of left right room =
    let count = row_count left in
    unless_fault (Some side.Left) (results_check left)
    (unless_fault (Some side.Right) (results_check right)
    (unless_fault None (need (eqb count (row_count right)) CountsDiffer 0)
    (unless_fault None (need (leb (words_needed left) room) RoomTooShort (words_needed left))
    (Ok (record { count = count; largest = largest_of left right count })))))

-- What the lent run holds afterwards: the words of the rows, and behind them what it held; under a refusal, all that it held.
abbrev pub unless_compared : Result Compared Refused → (kept told : List ℕ) → List ℕ
unless_compared (Ok compared) kept told = told
unless_compared (Err refused) kept told = kept

unfoldable pub run_after : (left right run : List ℕ) → List ℕ
run_after left right run =
    unless_compared (comparison_of left right (length run)) run (rows_told left right (row_count left) ++ drop (words_needed left) run)

-- The seven words of the answer.
abbrev pub compare_words : (left right run : List ℕ) → List ℕ
compare_words left right run = comparison_words (comparison_of left right (length run))
