-- Pairs of result files with what document 02 says of them (T-07), through the whole of two files; then one statement each, computed from
-- the definitions. All is worked out by hand.
use Rattle.std.specs.Prelude.{◌≡◌, refl, List, [], ◌∷◌, ◌++◌, map, ℕ, ◌+◌, ◌*◌, ◌-◌, length, take, replicate}
use Rattle.std.specs.Float.Ieee.{of_bits}
use Rattle.bits.specs.Words.{infinity, minus_zero}
use Rattle.files_words.specs.Bytes.{number_of, bytes_of, as_bytes, words, words_from, word_at}
use Rattle.files_checks.specs.Checks.{walk, count_check, counted_check, edition_check, filled_check}
use Rattle.files_differences.specs.Told.{row_kind_of, figure_of, comparison_words}
use Rattle.files_compare.specs.Compare.{results_check, figures_told, row_at, rows_told, largest_in_row, largest_of, comparison_of, compare_words, run_after}

-- ---- Words.
abbrev one : ℕ
one = 0x3ff0000000000000

abbrev minus_one : ℕ
minus_one = 0xbff0000000000000

-- So many places above 1, and below it.
abbrev up : ℕ → ℕ
up n = one + n

abbrev down : ℕ → ℕ
down n = one - n

-- From 1 to −1.
abbrev across_zero : ℕ
across_zero = 2 * one

abbrev minus_infinity : ℕ
minus_infinity = minus_zero + infinity

-- The ends of the line of finite doubles.
abbrev highest : ℕ
highest = infinity - 1

abbrev lowest : ℕ
lowest = minus_infinity - 1

-- NaNs: one, one beside it, one with its sign bit set, and one without the first's highest digit.
abbrev nan : ℕ
nan = 0x7ff8000000000001

abbrev other_nan : ℕ
other_nan = nan + 1

abbrev minus_nan : ℕ
minus_nan = minus_zero + nan

abbrev quietless : ℕ
quietless = 0x7ff0000000000001

-- ---- Rows. What the two rows hold, and the 19 words that are told for them.
pub record Case : Type 0 where
  pub left : List ℕ
  pub right : List ℕ
  pub told : List ℕ

abbrev case : (left right told : List ℕ) → Case
case left right told = record { left = left; right = right; told = told }

-- P10's row, with its points, and its x.
abbrev p10 : (points x : ℕ) → List ℕ
p10 points x = 0 ∷ points ∷ x ∷ 0 ∷ 0 ∷ 0 ∷ 0 ∷ 0 ∷ minus_zero ∷ minus_zero ∷ minus_zero ∷ []

-- A row with nine figures, and one that is refused.
abbrev row : List ℕ → List ℕ
row figures = 0 ∷ 21 ∷ figures

abbrev refused : (number : ℕ) → List ℕ
refused number = number ∷ 0 ∷ 0 ∷ 0 ∷ 0 ∷ 0 ∷ 0 ∷ 0 ∷ 0 ∷ 0 ∷ 0 ∷ []

-- A refused row that holds figures all the same.
abbrev holding : (number : ℕ) → List ℕ → List ℕ
holding number figures = number ∷ 21 ∷ figures

-- The words of nine figures that did not move, and of nine that are untold.
abbrev unmoved : List ℕ
unmoved = replicate 18 0

abbrev untold : List ℕ
untold = 3 ∷ 0 ∷ 3 ∷ 0 ∷ 3 ∷ 0 ∷ 3 ∷ 0 ∷ 3 ∷ 0 ∷ 3 ∷ 0 ∷ 3 ∷ 0 ∷ 3 ∷ 0 ∷ 3 ∷ 0 ∷ []

abbrev pub table : List Case
table =
    -- Points are not compared, and 0 is a distance.
    case (p10 21 one) (p10 22 one) (0 ∷ unmoved)
    -- Each figure in its own place, moved by one last place and more.
    ∷ case (row (one ∷ one ∷ one ∷ one ∷ one ∷ one ∷ one ∷ one ∷ one ∷ [])) (row (up 1 ∷ up 2 ∷ up 3 ∷ up 4 ∷ down 5 ∷ down 6 ∷ down 7 ∷ down 8 ∷ up 9 ∷ []))
    (0 ∷ 0 ∷ 1 ∷ 0 ∷ 2 ∷ 0 ∷ 3 ∷ 0 ∷ 4 ∷ 0 ∷ 5 ∷ 0 ∷ 6 ∷ 0 ∷ 7 ∷ 0 ∷ 8 ∷ 0 ∷ 9 ∷ [])
    -- "A figure not finite on either side has no distance, and is told as equal bits or unequal bits": by bits, so that NaNs can be equal.
    ∷ case (row (infinity ∷ infinity ∷ one ∷ nan ∷ nan ∷ nan ∷ minus_infinity ∷ 0 ∷ one ∷ []))
    (row (infinity ∷ one ∷ infinity ∷ nan ∷ other_nan ∷ one ∷ infinity ∷ minus_zero ∷ minus_one ∷ []))
    (0 ∷ 1 ∷ 0 ∷ 2 ∷ 0 ∷ 2 ∷ 0 ∷ 1 ∷ 0 ∷ 2 ∷ 0 ∷ 2 ∷ 0 ∷ 2 ∷ 0 ∷ 0 ∷ 0 ∷ 0 ∷ across_zero ∷ [])
    -- From end to end; across zero in least units; an infinity below zero, on either side; NaNs with their sign bit set.
    ∷ case (row (highest ∷ 1 ∷ minus_infinity ∷ one ∷ minus_nan ∷ nan ∷ nan ∷ 1 ∷ 0 ∷ []))
    (row (lowest ∷ 0x8000000000000002 ∷ one ∷ minus_infinity ∷ minus_nan ∷ minus_nan ∷ quietless ∷ 0 ∷ minus_zero ∷ []))
    (0 ∷ 0 ∷ 0xffdffffffffffffe ∷ 0 ∷ 3 ∷ 2 ∷ 0 ∷ 2 ∷ 0 ∷ 1 ∷ 0 ∷ 2 ∷ 0 ∷ 2 ∷ 0 ∷ 0 ∷ 1 ∷ 0 ∷ 0 ∷ [])
    -- "A row is refused when its first word isn't 0", on one side, on both, with one number or two; whatever the other words hold.
    ∷ case (refused 3) (p10 21 one) (1 ∷ untold)
    ∷ case (p10 21 one) (refused 3) (2 ∷ untold)
    ∷ case (refused 3) (holding 3 (replicate 9 one)) (3 ∷ untold)
    ∷ case (refused 3) (refused 4) (4 ∷ untold)
    ∷ case (holding minus_zero (replicate 9 one)) (p10 21 one) (1 ∷ untold)
    ∷ case (holding 3 (replicate 9 nan)) (row (replicate 9 infinity)) (1 ∷ untold)
    ∷ case (row (replicate 9 nan)) (holding 3 (replicate 9 nan)) (2 ∷ untold)
    ∷ case (holding 3 (replicate 9 nan)) (holding 259 (replicate 9 nan)) (4 ∷ untold)
    ∷ []

abbrev left_rows : List Case → List ℕ
left_rows [] = []
left_rows (c ∷ cs) = c.left ++ left_rows cs

abbrev right_rows : List Case → List ℕ
right_rows [] = []
right_rows (c ∷ cs) = c.right ++ right_rows cs

abbrev all_told : List Case → List ℕ
all_told [] = []
all_told (c ∷ cs) = c.told ++ all_told cs

-- "edition 1, the request count, then per request 11 words".
abbrev file : (count : ℕ) → List ℕ → List ℕ
file count rows = as_bytes (1 ∷ count ∷ rows)

-- Each pair of rows of the table, in one pair of files; the word behind the told ones stays.
pub marked :
    run_after (file (length table) (left_rows table)) (file (length table) (right_rows table)) (replicate (19 * length table) 9 ++ (7 ∷ []))
    ≡ all_told table ++ (7 ∷ [])
unfolding
    run_after comparison_of results_check edition_check filled_check counted_check count_check walk words words_from word_at number_of bytes_of as_bytes
    rows_told row_at figures_told largest_of largest_in_row row_kind_of figure_of of_bits
marked = refl

-- ---- Files: their bytes, the words lent for the rows, and the seven words that are answered.
pub record FileCase : Type 0 where
  pub left : List ℕ
  pub right : List ℕ
  pub room : ℕ
  pub answer : List ℕ

abbrev answers : (left right : List ℕ) (room : ℕ) (answer : List ℕ) → FileCase
answers left right room answer = record { left = left; right = right; room = room; answer = answer }

-- A refusal with its side and place.
abbrev refuses : (number side place : ℕ) → List ℕ
refuses number side place = number ∷ side ∷ place ∷ 0 ∷ 0 ∷ 0 ∷ 0 ∷ []

-- A file of P10's row alone, and the first n bytes of it.
abbrev whole : List ℕ
whole = file 1 (p10 21 one)

abbrev cut : (n : ℕ) → List ℕ
cut n = take n whole

-- A file with that row three times.
abbrev three : List ℕ
three = file 3 (p10 1 one ++ (p10 1 one ++ p10 1 one))

abbrev pub files : List FileCase
files =
    -- The row and word of the first largest distance: here row 0 and the first figure.
    answers whole whole 19 (0 ∷ 0 ∷ 0 ∷ 1 ∷ 0 ∷ 2 ∷ 0 ∷ [])
    ∷ answers whole (file 1 (p10 22 (up 1))) 400 (0 ∷ 0 ∷ 0 ∷ 1 ∷ 0 ∷ 2 ∷ 1 ∷ [])
    ∷ answers (file 1 (p10 1 highest)) (file 1 (p10 1 lowest)) 19 (0 ∷ 0 ∷ 0 ∷ 1 ∷ 0 ∷ 2 ∷ 0xffdffffffffffffe ∷ [])
    -- "the first largest": of two in one row, and of two rows.
    ∷ answers (file 1 (row (one ∷ one ∷ one ∷ one ∷ one ∷ one ∷ one ∷ one ∷ one ∷ [])))
    (file 1 (row (one ∷ up 1 ∷ down 3 ∷ one ∷ up 3 ∷ one ∷ one ∷ one ∷ down 2 ∷ []))) 19 (0 ∷ 0 ∷ 0 ∷ 1 ∷ 0 ∷ 4 ∷ 3 ∷ [])
    ∷ answers three (file 3 (p10 1 one ++ (p10 1 (down 2) ++ p10 1 (up 2)))) 57 (0 ∷ 0 ∷ 0 ∷ 3 ∷ 1 ∷ 2 ∷ 2 ∷ [])
    -- "the row count and 11 where no figure has one": no row at all, none that is answered on both sides, or none that is finite.
    ∷ answers (file 0 []) (file 0 []) 0 (0 ∷ 0 ∷ 0 ∷ 0 ∷ 0 ∷ 11 ∷ 0 ∷ [])
    ∷ answers (file 1 (refused 3)) whole 19 (0 ∷ 0 ∷ 0 ∷ 1 ∷ 1 ∷ 11 ∷ 0 ∷ [])
    ∷ answers (file 1 (row (replicate 9 infinity))) whole 19 (0 ∷ 0 ∷ 0 ∷ 1 ∷ 1 ∷ 11 ∷ 0 ∷ [])
    -- "21, 22, 23 and 25", each at its place; here of the left file, whatever the right one is.
    ∷ answers [] [] 0 (refuses 21 0 0)
    ∷ answers (cut 7) (cut 8) 19 (refuses 21 0 0)
    ∷ answers (as_bytes (2 ∷ [])) whole 19 (refuses 22 0 0)
    ∷ answers (cut 15) whole 19 (refuses 21 0 8)
    ∷ answers (as_bytes (1 ∷ 1501 ∷ [])) whole 19 (refuses 23 0 8)
    ∷ answers (as_bytes (1 ∷ 1500 ∷ [])) whole 19 (refuses 21 0 16)
    ∷ answers (cut 103) [] 19 (refuses 21 0 96)
    ∷ answers (whole ++ (0 ∷ [])) (cut 103) 19 (refuses 25 0 104)
    ∷ answers (as_bytes (1 ∷ minus_zero ∷ [])) whole 19 (refuses 23 0 8)
    ∷ answers (take 275 three) whole 19 (refuses 21 0 272)
    ∷ answers (three ++ (0 ∷ 0 ∷ [])) whole 19 (refuses 25 0 280)
    -- "the three words of a refused file are 25".
    ∷ answers (as_bytes (1 ∷ 0 ∷ 21 ∷ [])) whole 19 (refuses 25 0 16)
    -- "left file first", then the right one, "then 51 row counts differ"; 26 last, with the words needed.
    ∷ answers whole (as_bytes (2 ∷ [])) 0 (refuses 22 1 0)
    ∷ answers whole (cut 50) 19 (refuses 21 1 48)
    ∷ answers whole (as_bytes (1 ∷ 0 ∷ 3 ∷ [])) 19 (refuses 25 1 16)
    ∷ answers whole (file 0 []) 0 (refuses 51 0 0)
    ∷ answers (file 0 []) whole 19 (refuses 51 0 0)
    ∷ answers whole whole 18 (refuses 26 0 19)
    ∷ answers whole whole 0 (refuses 26 0 19)
    ∷ []

pub marked_files : map (λ (c : FileCase). compare_words c.left c.right (replicate c.room 9)) files ≡ map (λ (c : FileCase). c.answer) files
unfolding
    comparison_words comparison_of results_check edition_check filled_check counted_check count_check walk words words_from word_at number_of bytes_of as_bytes
    row_at largest_of largest_in_row row_kind_of figure_of of_bits
marked_files = refl
