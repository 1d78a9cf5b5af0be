-- What a comparison means, without its steps: which files are compared and which refused, in document 02's order; what the first largest distance is; what is
-- said of the rows of two files; that a file does not differ from itself, and that it does not matter which file is the left one.
use Rattle.std.specs.Prelude.{◌≡◌, ◌⊎◌, Option, Some, None, Result, Ok, Err, List, [], ◌∷◌, ◌++◌, ℕ, suc, ◌+◌, ◌*◌, ◌/◌, ◌≤◌, ◌<◌, ◌^◌, length, drop, get_or}
use Rattle.bits.specs.Refusal.{number_of}
use Rattle.files_words.specs.Bytes.{word_at, as_bytes, Below}
use Rattle.files_checks.specs.declared.Fault.{Fault}
use Rattle.files_checks.specs.Checks.{sound, IsFault}
use Rattle.files_records.specs.Records.{AllOf, all_words}
use Rattle.files_formats.specs.Rows.{result_edition, result_figure, result_figures}
use Rattle.files_differences.specs.declared.told.RowKind.{RowKind}
use Rattle.files_differences.specs.declared.told.RowKind.TheVariants as kind
use Rattle.files_differences.specs.declared.told.Figure.{Figure}
use Rattle.files_differences.specs.declared.told.Figure.TheVariants as figure
use Rattle.files_differences.specs.declared.told.Largest.{Largest}
use Rattle.files_differences.specs.declared.told.Side.{Side}
use Rattle.files_differences.specs.declared.told.Side.TheVariants as side
use Rattle.files_differences.specs.declared.told.Compared.{Compared}
use Rattle.files_differences.specs.declared.told.Refused.{Refused}
use Rattle.files_differences.specs.Told.{of_side, row_kind_of, row_kind_word, figure_in, figure_words}
use Rattle.files_compare.specs.Compare.{results_check, row_count, row_kind_at, figure_at, rows_told, largest_of, words_needed, comparison_of, run_after}

-- ---- A file that is not refused: its edition is 1, it has at most 1,500 rows, and no byte more or less than they take.
pub record SoundFile (file : List ℕ) : Type 0 where
  pub edition : word_at file 0 ≡ 1
  pub few : row_count file ≤ 1500
  pub size : length file ≡ 16 + 88 * row_count file

abbrev pub SoundSo : Type 0
SoundSo = (file : List ℕ) → results_check file ≡ sound → SoundFile file

-- "the three words of a refused file are 25": at the third, whatever number it is.
abbrev pub RefusedFileIs25 : Type 0
RefusedFileIs25 = (number : ℕ) → IsFault (results_check (as_bytes (1 ∷ 0 ∷ number ∷ []))) 25 16

-- A file that is refused: the first fault on the way, and where it is; what stands before it is right. 21 is at the first word that
-- is not whole, 25 at the first byte left.
abbrev pub EditionRight : List ℕ → Type 0
EditionRight file = 8 ≤ length file → word_at file 0 ≡ 1

abbrev pub FaultIn : List ℕ → (number place : ℕ) → Type 0
FaultIn file number place =
    ((number ≡ 21) × (place ≡ 8 * (length file / 8)) × EditionRight file × (row_count file ≤ 1500) × (length file < 16 + 88 * row_count file))
    ⊎ (((number ≡ 22) × (place ≡ 0) × (8 ≤ length file) × (word_at file 0 ≡ 1 → ⊥))
    ⊎ (((number ≡ 23) × (place ≡ 8) × EditionRight file × (16 ≤ length file) × (1500 < row_count file))
    ⊎ ((number ≡ 25) × (place ≡ 16 + 88 * row_count file) × EditionRight file × (row_count file ≤ 1500) × (place < length file))))

abbrev pub FaultSo : Type 0
FaultSo = (file : List ℕ) (fault : Fault) → results_check file ≡ Err fault → FaultIn file (number_of fault.refusal) fault.place

-- ---- "Refusals: 21, 22, 23 and 25, left file first .., then 51 row counts differ"; then 26, with the words needed.
abbrev pub IsRefused : Result Compared Refused → (number : ℕ) → Option Side → (place : ℕ) → Type 0
IsRefused (Ok compared) number s place = ⊥
IsRefused (Err refused) number s place = (number_of refused.fault.refusal ≡ number) × (refused.side ≡ s) × (refused.fault.place ≡ place)

pub record InOrder (left right : List ℕ) (room : ℕ) : Type 0 where
  pub left_first : (fault : Fault) → results_check left ≡ Err fault → comparison_of left right room ≡ Err (of_side side.Left fault)
  pub then_right : results_check left ≡ sound → (fault : Fault) → results_check right ≡ Err fault →
      comparison_of left right room ≡ Err (of_side side.Right fault)
  pub then_51 : results_check left ≡ sound → results_check right ≡ sound → (row_count left ≡ row_count right → ⊥) →
      IsRefused (comparison_of left right room) 51 None 0
  pub then_26 : results_check left ≡ sound → results_check right ≡ sound → row_count left ≡ row_count right → room < words_needed left →
      IsRefused (comparison_of left right room) 26 None (words_needed left)
  pub else_compared : results_check left ≡ sound → results_check right ≡ sound → row_count left ≡ row_count right → words_needed left ≤ room →
      comparison_of left right room ≡ Ok (record { count = row_count left; largest = largest_of left right (row_count left) })

abbrev pub RefusesInOrder : Type 0
RefusesInOrder = (left right : List ℕ) (room : ℕ) → InOrder left right room

-- Demand 1: "lent memory unchanged" under every refusal; else the words of the rows, and behind them what the run held.
pub record KeptOrTold (left right run : List ℕ) : Type 0 where
  pub kept : (r : Refused) → comparison_of left right (length run) ≡ Err r → run_after left right run ≡ run
  pub told : (c : Compared) → comparison_of left right (length run) ≡ Ok c →
      run_after left right run ≡ rows_told left right (row_count left) ++ drop (words_needed left) run

abbrev pub KeepsOrTells : Type 0
KeepsOrTells = (left right run : List ℕ) → KeptOrTold left right run

-- ---- "the row and word of the first largest distance". Figures come row by row, and in order in a row: figure j of
-- rows k comes before figure n of rows `row`.
abbrev pub Earlier : (k j row n : ℕ) → Type 0
Earlier k j row n = (k < row) ⊎ ((k ≡ row) × (j < n))

module _ (left right : List ℕ) where
  -- Of all figures before figure n of rows `row`, figure j of rows k is the first with the largest distance, d: none
  -- exceeds it, and those before it are smaller.
  pub record IsFirst (row n k j d : ℕ) : Type 0 where
    pub there : Earlier k j row n
    pub a_figure : j < result_figures
    pub is_its : figure_at left right k j ≡ figure.Distance d
    pub none_larger : (r i e : ℕ) → i < result_figures → Earlier r i row n → figure_at left right r i ≡ figure.Distance e → e ≤ d
    pub all_smaller : (r i e : ℕ) → i < result_figures → Earlier r i k j → figure_at left right r i ≡ figure.Distance e → e < d

  -- None: none of them has a distance.
  abbrev pub FirstLargest : (row n : ℕ) → Option Largest → Type 0
  FirstLargest row n None = (r i e : ℕ) → i < result_figures → Earlier r i row n → figure_at left right r i ≡ figure.Distance e → ⊥
  FirstLargest row n (Some l) = (j : ℕ) × ((l.word ≡ result_figure + j) × IsFirst row n l.row j l.distance)

-- For all rows: the figures before figure 0 of the row behind the last.
abbrev pub LargestIsFirst : Type 0
LargestIsFirst = (left right : List ℕ) (count : ℕ) → FirstLargest left right count 0 (largest_of left right count)

-- ---- A file does not differ from itself.
abbrev pub Unmoved : Figure → Type 0
Unmoved f = (f ≡ figure.Distance 0) ⊎ ((f ≡ figure.EqualBits) ⊎ (f ≡ figure.Untold))

pub record AsItself (file : List ℕ) (k j : ℕ) : Type 0 where
  pub same_rows : (row_kind_at file file k ≡ kind.Answered) ⊎ (row_kind_at file file k ≡ kind.RefusedAlike)
  pub same_figure : Unmoved (figure_at file file k j)

abbrev pub NothingMoved : Type 0
NothingMoved = (file : List ℕ) (k j : ℕ) → AsItself file k j

-- ---- Whichever file is the left one, figures and the largest distance are the same; rows that one side alone refused change sides.
abbrev pub exchanged : RowKind → RowKind
exchanged kind.Answered = kind.Answered
exchanged kind.LeftRefused = kind.RightRefused
exchanged kind.RightRefused = kind.LeftRefused
exchanged kind.RefusedAlike = kind.RefusedAlike
exchanged kind.RefusedUnlike = kind.RefusedUnlike

pub record EitherWay (left right : List ℕ) : Type 0 where
  pub its_kinds : (k : ℕ) → row_kind_at right left k ≡ exchanged (row_kind_at left right k)
  pub its_figures : (k j : ℕ) → figure_at right left k j ≡ figure_at left right k j
  pub its_largest : (count : ℕ) → largest_of right left count ≡ largest_of left right count

abbrev pub SidesExchanged : Type 0
SidesExchanged = (left right : List ℕ) → EitherWay left right

-- ---- What is said of the rows of two files, by rows and not by bytes. "per request 11 words: refusal or 0, points", and nine figures.
pub record Row : Type 0 where
  pub refusal : ℕ
  pub points : ℕ
  pub figures : List ℕ

abbrev pub words_in : Row → List ℕ
words_in r = r.refusal ∷ r.points ∷ r.figures

pub record IsRow (r : Row) : Type 0 where
  pub nine : length r.figures ≡ 9
  pub are_words : Below (2 ^ 64) (words_in r)

abbrev pub AreRows : List Row → Type 0
AreRows rs = AllOf IsRow rs

-- "edition 1, the request count, then per request 11 words".
abbrev pub file_of : List Row → List ℕ
file_of rs = as_bytes (result_edition ∷ length rs ∷ all_words words_in rs)

-- Two rows: what they are, then each figure; points are not looked at.
abbrev pub figures_between : RowKind → (left right : List ℕ) → List ℕ
figures_between are [] ws = []
figures_between are (v ∷ vs) [] = []
figures_between are (v ∷ vs) (w ∷ ws) = figure_words (figure_in are v w) ++ figures_between are vs ws

abbrev pub between : Row → Row → List ℕ
between l r = let are = row_kind_of l.refusal r.refusal in row_kind_word are ∷ figures_between are l.figures r.figures

abbrev pub all_between : List Row → List Row → List ℕ
all_between [] rs = []
all_between (l ∷ ls) [] = []
all_between (l ∷ ls) (r ∷ rs) = between l r ++ all_between ls rs

-- What is said of each figure of two files with these rows, from row k on; so the first largest distance too is by rows.
abbrev pub FiguresOf : (left right : List ℕ) (k : ℕ) (ls rs : List Row) → Type 0
FiguresOf left right k [] rs = Unit {0}
FiguresOf left right k (l ∷ ls) [] = Unit {0}
FiguresOf left right k (l ∷ ls) (r ∷ rs) =
    ((j : ℕ) → j < 9 → figure_at left right k j ≡ figure_in (row_kind_of l.refusal r.refusal) (get_or l.figures j 0) (get_or r.figures j 0))
    × FiguresOf left right (suc k) ls rs

-- Files with the same number of rows, 1,500 at most, are compared where the run is long enough; it then holds the words of all rows, in their order.
pub record RowsCompared (ls rs : List Row) (run : List ℕ) : Type 0 where
  pub answer : comparison_of (file_of ls) (file_of rs) (length run)
      ≡ Ok (record { count = length ls; largest = largest_of (file_of ls) (file_of rs) (length ls) })
  pub in_run : run_after (file_of ls) (file_of rs) run ≡ all_between ls rs ++ drop (19 * length ls) run
  pub in_figures : FiguresOf (file_of ls) (file_of rs) 0 ls rs

abbrev pub ComparesRows : Type 0
ComparesRows =
    (ls rs : List Row) → AreRows ls → AreRows rs → length ls ≡ length rs → length ls ≤ 1500 →
    (run : List ℕ) → 19 * length ls ≤ length run → RowsCompared ls rs run
