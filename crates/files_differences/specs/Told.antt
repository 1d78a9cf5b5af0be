-- Document 02, T-07: what a comparison says of a figure, of a row and of the largest distance, and the words of each case.
use Rattle.std.specs.Prelude.{Bool, ◌&&◌, List, [], ◌∷◌, ℕ, Option, Some, None, Result, Ok, Err, eqb, ltb}
use Rattle.std.specs.Float.{binary64}
use Rattle.std.specs.Float.Ieee.{of_bits}
use Rattle.bits.specs.Choice.{pick}
use Rattle.bits.specs.Arithmetic.{is_finite}
use Rattle.bits.specs.Refusal.{number_of}
use Rattle.files_checks.specs.declared.Fault.{Fault}
use Rattle.files_formats.specs.Rows.{result_width}
use Rattle.files_differences.specs.Distance.{distance_of}
use Rattle.files_differences.specs.declared.told.RowKind.{RowKind}
use Rattle.files_differences.specs.declared.told.RowKind.TheVariants as kind
use Rattle.files_differences.specs.declared.told.Figure.{Figure}
use Rattle.files_differences.specs.declared.told.Figure.TheVariants as figure
use Rattle.files_differences.specs.declared.told.Largest.{Largest}
use Rattle.files_differences.specs.declared.told.Side.{Side}
use Rattle.files_differences.specs.declared.told.Side.TheVariants as side
use Rattle.files_differences.specs.declared.told.Compared.{Compared}
use Rattle.files_differences.specs.declared.told.Refused.{Refused}

-- ---- Rows. "A row is refused when its first word isn't 0. Rows where just one side refused are listed apart", by kinds of their own. "Rows refused on both
-- sides tell only whether the numbers agree." By the rows' first words:
unfoldable pub row_kind_of : (left right : ℕ) → RowKind
row_kind_of left right =
    pick (eqb left 0)
    (pick (eqb right 0) kind.Answered kind.RightRefused)
    (pick (eqb right 0) kind.LeftRefused
    (pick (eqb left right) kind.RefusedAlike kind.RefusedUnlike))

abbrev pub row_kind_word : RowKind → ℕ
row_kind_word kind.Answered = 0
row_kind_word kind.LeftRefused = 1
row_kind_word kind.RightRefused = 2
row_kind_word kind.RefusedAlike = 3
row_kind_word kind.RefusedUnlike = 4

-- ---- Figures. "A figure not finite on either side has no distance, and is told as equal bits or unequal bits." By its two words:
abbrev pub both_finite : (left right : ℕ) → Bool
both_finite left right = is_finite (of_bits binary64 left) && is_finite (of_bits binary64 right)

unfoldable pub figure_of : (left right : ℕ) → Figure
figure_of left right =
    pick (both_finite left right)
    (figure.Distance (distance_of left right))
    (pick (eqb left right) figure.EqualBits figure.UnequalBits)

-- In rows that a side refused, figures are untold.
abbrev pub figure_in : RowKind → (left right : ℕ) → Figure
figure_in kind.Answered left right = figure_of left right
figure_in kind.LeftRefused left right = figure.Untold
figure_in kind.RightRefused left right = figure.Untold
figure_in kind.RefusedAlike left right = figure.Untold
figure_in kind.RefusedUnlike left right = figure.Untold

-- A figure's kind and its distance, which is 0 for every kind but 0.
abbrev pub figure_words : Figure → List ℕ
figure_words (figure.Distance d) = 0 ∷ d ∷ []
figure_words figure.EqualBits = 1 ∷ 0 ∷ []
figure_words figure.UnequalBits = 2 ∷ 0 ∷ []
figure_words figure.Untold = 3 ∷ 0 ∷ []

-- ---- "the row and word of the first largest distance". What is known of it so far, and one figure more, which replaces only a smaller
-- distance: so the first of the largest stays.
abbrev pub at : (row word d : ℕ) → Largest
at row word d = record { row = row; word = word; distance = d }

abbrev pub first_larger : Option Largest → (row word d : ℕ) → Option Largest
first_larger None row word d = Some (at row word d)
first_larger (Some l) row word d = pick (ltb l.distance d) (Some (at row word d)) (Some l)

abbrev pub largest_with : Option Largest → (row word : ℕ) → Figure → Option Largest
largest_with known row word (figure.Distance d) = first_larger known row word d
largest_with known row word figure.EqualBits = known
largest_with known row word figure.UnequalBits = known
largest_with known row word figure.Untold = known

-- "both from 0; the row count and 11 where no figure has one": row, word and distance.
abbrev pub largest_words : (count : ℕ) → Option Largest → List ℕ
largest_words count None = count ∷ result_width ∷ 0 ∷ []
largest_words count (Some l) = l.row ∷ l.word ∷ l.distance ∷ []

-- ---- The answer's seven words: refusal, side, place, row count, then row, word and distance of the first largest distance. In a refusal the last four are 0.
abbrev pub side_word : Option Side → ℕ
side_word None = 0
side_word (Some side.Left) = 0
side_word (Some side.Right) = 1

abbrev pub compared_words : (count : ℕ) → Option Largest → List ℕ
compared_words count l = 0 ∷ 0 ∷ 0 ∷ count ∷ largest_words count l

-- A refusal of one file, and of both together.
abbrev pub of_side : Side → Fault → Refused
of_side s fault = record { fault = fault; side = Some s }

abbrev pub of_both : Fault → Refused
of_both fault = record { fault = fault; side = None }

unfoldable pub comparison_words : Result Compared Refused → List ℕ
comparison_words (Ok c) = compared_words c.count c.largest
comparison_words (Err r) = number_of r.fault.refusal ∷ side_word r.side ∷ r.fault.place ∷ 0 ∷ 0 ∷ 0 ∷ 0 ∷ []
