-- Document 02, T-06: "Rows come 18 words each after a count of 0 to 400. Refusals: 21, 23, 25 as for element files, then a verdict per row."
use Rattle.std.specs.Prelude.{Result, Ok, Err, List, [], ◌∷◌, ◌++◌, ℕ, zero, suc, ◌+◌, ◌*◌, leb, length, take, drop}
use Rattle.bits.specs.Choice.{pick}
use Rattle.bits.specs.declared.refusal.Refusal.TheVariants.{RoomTooShort}
use Rattle.files_words.specs.Bytes.{word_at}
use Rattle.files_checks.specs.declared.Fault.{Fault}
use Rattle.files_checks.specs.Checks.{Check, need, ◌⟫◌, filled_check}
use Rattle.files_formats.specs.Rows.{
  checked_count_place,
  checked_width,
  most_checked,
  checked_place,
  given_words,
  checked_anomaly,
  checked_figure,
  checked_figures,
}
use Rattle.states_check.specs.Row.{accepts}

-- ---- "18 words each after a count of 0 to 400": how many rows a file counts. "21, 23, 25 as for element files": the count, that many rows, whose words may
-- hold any bits, and the end.
abbrev pub rows_in : List ℕ → ℕ
rows_in file = word_at file checked_count_place

unfoldable pub rows_check : List ℕ → Check
unfolding filled_check
rows_check file = filled_check file checked_count_place most_checked checked_width

-- ---- What there is of each of the first n: of the words from a place on, and of the rows.
unfoldable pub each_of : (of : ℕ → ℕ) (n : ℕ) → List ℕ
each_of of zero = []
each_of of (suc n) = each_of of n ++ (of n ∷ [])

-- "eight input words, a proposed anomaly and the nine end figures": so many words from a place on; and those of the row that stands at a place.
abbrev pub fields_at : List ℕ → (place n : ℕ) → List ℕ
fields_at file place n = each_of (λ j. word_at file (place + 8 * j)) n

abbrev pub given_at : List ℕ → (place : ℕ) → List ℕ
given_at file place = fields_at file place given_words

abbrev pub proposed_at : List ℕ → (place : ℕ) → ℕ
proposed_at file place = word_at file (place + 8 * checked_anomaly)

abbrev pub nine_at : List ℕ → (place : ℕ) → List ℕ
nine_at file place = fields_at file (place + 8 * checked_figure) checked_figures

-- "a verdict per row": 1 is yes, 0 is no.
unfoldable pub verdict_of : (given : List ℕ) (anomaly : ℕ) (nine : List ℕ) → ℕ
verdict_of given anomaly nine = pick (accepts given anomaly nine) 1 0

abbrev pub verdict_at : List ℕ → (k : ℕ) → ℕ
verdict_at file k = let place = checked_place k in verdict_of (given_at file place) (proposed_at file place) (nine_at file place)

-- Row k of a file, by its bytes.
unfoldable pub row_at : List ℕ → (k : ℕ) → List ℕ
row_at file k = take (8 * checked_width) (drop (checked_place k) file)

-- The verdicts of the first n rows.
abbrev pub verdicts_of : List ℕ → (n : ℕ) → List ℕ
verdicts_of file n = each_of (verdict_at file) n

-- ---- What is answered: a refusal with its place, or the rows; 26 where the lent run is too short, "after the others", with the rows.
abbrev pub rows_fit : List ℕ → (room : ℕ) → Check
rows_fit file room = rows_check file ⟫ need (leb (rows_in file) room) RoomTooShort (rows_in file)

unfoldable pub judged_of : List ℕ → (room : ℕ) → Result ℕ Fault
judged_of file room = rows_fit file room ⟫ Ok (rows_in file)

-- What the lent run holds afterwards: the verdicts, and behind them what it held; under a refusal, all that it held.
abbrev pub with_verdicts : List ℕ → (n : ℕ) → (run : List ℕ) → List ℕ
with_verdicts file n run = verdicts_of file n ++ drop n run

abbrev pub unless_fault : Check → (kept judged : List ℕ) → List ℕ
unless_fault (Ok sound) kept judged = judged
unless_fault (Err fault) kept judged = kept

unfoldable pub verdicts_after : List ℕ → (run : List ℕ) → List ℕ
verdicts_after file run = unless_fault (rows_fit file (length run)) run (with_verdicts file (rows_in file) run)
