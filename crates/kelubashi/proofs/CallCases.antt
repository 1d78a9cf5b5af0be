-- Calls with what the header and the documents say of them: the number that is returned, and every word of the answer and of all that is lent, worked out by
-- hand. Calls whose figures have to be computed are in crate `kelubashi_cases`.
use mathlib.Core.Path.{◌≡◌, refl}
use mathlib.Core.List.{List, [], ◌∷◌, ◌++◌}
use Prim.Native.Nat.{ℕ, ◌+◌}
use contract.Lifetimes.{Lfts}
use lib.Ieee.{is_nan, of_bits, sub, to_bits}
use lib.ListN.{replicate, take}
use Rattle.bits.specs.Words.{minus_zero}
use Rattle.bits.specs.Root.{root_word_of}
use Rattle.files_words.specs.Bytes.{as_bytes, put, word_at}
use Rattle.files_reader.specs.Reader.{reading_of}
use Rattle.files.specs.Writer.{writing_of, room_of}
use Rattle.files_results.specs.Results.{result_file, outcome_in, rows_of}
use Rattle.files_summary.specs.Changes.{change_of, run_of, summary_list}
use Rattle.files_check.specs.RowsFile.{rows_check, each_of, judged_of, verdicts_after}
use Rattle.files_differences.specs.Told.{row_kind_of, figure_of, comparison_words}
use Rattle.files_compare.specs.Compare.{figures_told, row_at, rows_told, largest_in_row, largest_of, comparison_of, run_after}
use Rattle.kelubashi.specs.Face.{reading_words}
use Rattle.kelubashi.proofs.Calls.{Places, Root, Interval, Read, Write, Results, Summary, Append, Withdraw, Check, Compare}

-- ---- Words, and what the lent runs hold before a call.
abbrev pub one : ℕ
one = 0x3ff0000000000000

abbrev pub minus_one : ℕ
minus_one = 0xbff0000000000000

abbrev pub nan : ℕ
nan = 0x7ff8000000000000

abbrev pub infinite : ℕ
infinite = 0x7ff0000000000000

abbrev pub sevens : (n : ℕ) → List ℕ
sevens n = replicate n 7

-- The checker computes that the number which is returned is the one that is said, and so is each word of one run, of two or of three.
module _ {A B : Type 0} {number : A} {first : B} where
  pub one_run : (number ≡ number) × (first ≡ first)
  one_run = (refl, refl)

  module _ {C : Type 0} {second : C} where
    pub two_runs : (number ≡ number) × ((first ≡ first) × (second ≡ second))
    two_runs = (refl, (refl, refl))

    pub three_runs : {D : Type 0} {third : D} → (number ≡ number) × ((first ≡ first) × ((second ≡ second) × (third ≡ third)))
    three_runs = (refl, (refl, (refl, refl)))

-- ---- The root. "P1 root of 4 is 2." "The root of either zero is +0." "P4 root of −1: 9." 60 before all else, here as for every call.
pub roots : (κs : Lfts 1) (at : Places) →
    Root κs at 0x4010000000000000 (sevens 1) 0 (0x4000000000000000 ∷ [])
    × Root κs at minus_zero (sevens 1) 0 (0 ∷ [])
    × Root κs at minus_one (sevens 1) 9 (0 ∷ [])
    × Root κs at minus_one [] 60 []
    × Root κs at minus_one (sevens 2) 60 (sevens 2)
unfolding root_word_of
roots κs at = (one_run, one_run, one_run, one_run, one_run)

-- ---- The interval: "τ is time − epoch", rounded once, of any words.
pub intervals : (κs : Lfts 1) (at : Places) →
    -- 3 − 1 = 2 and 1 − 3 = −2. A number less itself is +0, and so is a zero less a zero, but for −0 − +0.
    Interval κs at 0x4008000000000000 one (sevens 1) 0 (0x4000000000000000 ∷ [])
    × Interval κs at one 0x4008000000000000 (sevens 1) 0 (0xc000000000000000 ∷ [])
    × Interval κs at 0x3fb999999999999a 0x3fb999999999999a (sevens 1) 0 (0 ∷ [])
    × Interval κs at 0 0 (sevens 1) 0 (0 ∷ [])
    × Interval κs at 0 minus_zero (sevens 1) 0 (0 ∷ [])
    × Interval κs at minus_zero minus_zero (sevens 1) 0 (0 ∷ [])
    × Interval κs at minus_zero 0 (sevens 1) 0 (minus_zero ∷ [])
    -- 2^53 + 1 and 2^53 + 3 lie between two doubles, of which the even one is taken: 2^53 and 2^53 + 4. Twice the largest double is beyond all.
    × Interval κs at 0x4340000000000000 minus_one (sevens 1) 0 (0x4340000000000000 ∷ [])
    × Interval κs at 0x4340000000000000 0xc008000000000000 (sevens 1) 0 (0x4340000000000002 ∷ [])
    × Interval κs at 0x7fefffffffffffff 0xffefffffffffffff (sevens 1) 0 (infinite ∷ [])
    -- Infinite ones; and a NaN, whatever its sign and its digits, leaves the one NaN's word.
    × Interval κs at infinite one (sevens 1) 0 (infinite ∷ [])
    × Interval κs at one infinite (sevens 1) 0 (0xfff0000000000000 ∷ [])
    × Interval κs at infinite infinite (sevens 1) 0 (nan ∷ [])
    × Interval κs at 0xfff0000000000001 one (sevens 1) 0 (nan ∷ [])
    × Interval κs at one 0x7fffffffffffffff (sevens 1) 0 (nan ∷ [])
    × Interval κs at one one [] 60 []
    × Interval κs at one one (sevens 2) 60 (sevens 2)
unfolding sub of_bits to_bits
intervals κs at =
    (one_run, one_run, one_run, one_run, one_run, one_run, one_run, one_run, one_run, one_run, one_run, one_run, one_run, one_run, one_run, one_run, one_run)

-- ---- An element file read: P10's; one of two centres, a state and three requests; and one of two centres by its bytes, "the lowest first".
abbrev pub p10_words : List ℕ
p10_words = 1 ∷ 1 ∷ 0 ∷ 1 ∷ 0 ∷ 0 ∷ one ∷ 0 ∷ 0 ∷ 0 ∷ 0 ∷ 0 ∷ 1 ∷ 0 ∷ one ∷ []

abbrev more_words : List ℕ
more_words = 1 ∷ 2 ∷ 0 ∷ 0 ∷ 1 ∷ 1 ∷ 0 ∷ one ∷ 0 ∷ 0 ∷ 0 ∷ 0 ∷ 0 ∷ 3 ∷ 0 ∷ one ∷ 0 ∷ one ∷ 0 ∷ one ∷ []

abbrev two_centres : List ℕ
two_centres =
    1 ∷ 0 ∷ 0 ∷ 0 ∷ 0 ∷ 0 ∷ 0 ∷ 0
    ∷ 2 ∷ 0 ∷ 0 ∷ 0 ∷ 0 ∷ 0 ∷ 0 ∷ 0
    ∷ 1 ∷ 2 ∷ 3 ∷ 4 ∷ 5 ∷ 6 ∷ 7 ∷ 8
    ∷ 0 ∷ 0 ∷ 0 ∷ 0 ∷ 0 ∷ 0 ∷ 240 ∷ 63
    ∷ 0 ∷ 0 ∷ 0 ∷ 0 ∷ 0 ∷ 0 ∷ 0 ∷ 0
    ∷ 0 ∷ 0 ∷ 0 ∷ 0 ∷ 0 ∷ 0 ∷ 0 ∷ 0
    ∷ []

-- "Where the file is refused, the six words of the sections are 0".
abbrev refused_at : (number place : ℕ) → List ℕ
refused_at number place = number ∷ place ∷ 0 ∷ 0 ∷ 0 ∷ 0 ∷ 0 ∷ 0 ∷ []

pub reads : (κs : Lfts 2) (at : Places) →
    Read κs at (as_bytes p10_words) (sevens 8) 0 (0 ∷ 0 ∷ 8 ∷ 1 ∷ 24 ∷ 1 ∷ 96 ∷ 1 ∷ [])
    × Read κs at (as_bytes more_words) (sevens 8) 0 (0 ∷ 0 ∷ 8 ∷ 2 ∷ 32 ∷ 1 ∷ 104 ∷ 3 ∷ [])
    × Read κs at two_centres (sevens 8) 0 (0 ∷ 0 ∷ 8 ∷ 2 ∷ 32 ∷ 0 ∷ 40 ∷ 0 ∷ [])
    -- The place of the word at fault: one that is not whole; the edition, here with its 1 as the highest byte; a count; a number; the first byte left.
    × Read κs at [] (sevens 8) 21 (refused_at 21 0)
    × Read κs at (take 119 (as_bytes p10_words)) (sevens 8) 21 (refused_at 21 112)
    × Read κs at (0 ∷ 0 ∷ 0 ∷ 0 ∷ 0 ∷ 0 ∷ 0 ∷ 1 ∷ []) (sevens 8) 22 (refused_at 22 0)
    × Read κs at (as_bytes (1 ∷ 17 ∷ [])) (sevens 8) 23 (refused_at 23 8)
    × Read κs at (as_bytes (1 ∷ 1 ∷ 0 ∷ 1 ∷ 1 ∷ [])) (sevens 8) 24 (refused_at 24 32)
    × Read κs at (as_bytes p10_words ++ (0 ∷ [])) (sevens 8) 25 (refused_at 25 120)
    × Read κs at [] (sevens 7) 60 (sevens 7)
    × Read κs at [] (sevens 9) 60 (sevens 9)
unfolding reading_words reading_of as_bytes
reads κs at = (one_run, one_run, one_run, one_run, one_run, one_run, one_run, one_run, one_run, one_run, one_run)

-- ---- And written. "bytes behind it are left, and under a refusal all are".
abbrev p10_state : List ℕ
p10_state = 0 ∷ 0 ∷ one ∷ 0 ∷ 0 ∷ 0 ∷ 0 ∷ 0 ∷ []

pub writes : (κs : Lfts 5) (at : Places) →
    Write κs at (0 ∷ []) p10_state (0 ∷ one ∷ []) (sevens 121) (sevens 2) 0 (as_bytes p10_words ++ (7 ∷ [])) (0 ∷ 120 ∷ [])
    × Write κs at (0x0807060504030201 ∷ one ∷ []) [] [] (sevens 50) (sevens 2) 0 (two_centres ++ (7 ∷ 7 ∷ [])) (0 ∷ 48 ∷ [])
    -- The section that is not whole records; the place in "the file that would have been"; the bytes needed.
    × Write κs at (0 ∷ []) (p10_state ++ (0 ∷ [])) (0 ∷ []) (sevens 120) (sevens 2) 27 (sevens 120) (27 ∷ 1 ∷ [])
    × Write κs at (0 ∷ []) p10_state (0 ∷ []) (sevens 120) (sevens 2) 27 (sevens 120) (27 ∷ 2 ∷ [])
    × Write κs at (replicate 17 0) p10_state [] (sevens 300) (sevens 2) 23 (sevens 300) (23 ∷ 8 ∷ [])
    × Write κs at (0 ∷ []) p10_state (1 ∷ one ∷ []) (sevens 120) (sevens 2) 24 (sevens 120) (24 ∷ 104 ∷ [])
    × Write κs at (0 ∷ []) p10_state (0 ∷ one ∷ []) (sevens 119) (sevens 2) 26 (sevens 119) (26 ∷ 120 ∷ [])
    × Write κs at (0 ∷ []) p10_state (0 ∷ one ∷ []) (sevens 120) (sevens 3) 60 (sevens 120) (sevens 3)
unfolding writing_of room_of as_bytes
writes κs at = (two_runs, two_runs, two_runs, two_runs, two_runs, two_runs, two_runs, two_runs)

-- ---- Results: of a file without requests, and of a refused one, "24 bytes: 1, 0, and the number of the refusal"; 26 with the bytes needed.
pub results : (κs : Lfts 3) (at : Places) →
    Results κs at (as_bytes (1 ∷ 0 ∷ 0 ∷ 0 ∷ [])) (sevens 17) (sevens 2) 0 (as_bytes (1 ∷ 0 ∷ []) ++ (7 ∷ [])) (0 ∷ 16 ∷ [])
    × Results κs at [] (sevens 25) (sevens 2) 0
    (1 ∷ 0 ∷ 0 ∷ 0 ∷ 0 ∷ 0 ∷ 0 ∷ 0 ∷ 0 ∷ 0 ∷ 0 ∷ 0 ∷ 0 ∷ 0 ∷ 0 ∷ 0 ∷ 21 ∷ 0 ∷ 0 ∷ 0 ∷ 0 ∷ 0 ∷ 0 ∷ 0 ∷ 7 ∷ []) (0 ∷ 24 ∷ [])
    × Results κs at [] (sevens 23) (sevens 2) 26 (sevens 23) (26 ∷ 24 ∷ [])
    × Results κs at [] (sevens 25) (sevens 1) 60 (sevens 25) (sevens 1)
unfolding result_file outcome_in rows_of reading_of put as_bytes
results κs at = (two_runs, two_runs, two_runs, two_runs)

-- ---- A list beside the states: three are in use, of a run of 500. Centre 0 has one at 1 s; centre 1 has one at −1 s, and one whose epoch is a NaN.
abbrev state : (centre epoch mark : ℕ) → List ℕ
state centre epoch mark = centre ∷ epoch ∷ mark ∷ mark ∷ mark ∷ mark ∷ mark ∷ mark ∷ []

abbrev three : List ℕ
three = state 0 one 11 ++ (state 1 minus_one 22 ++ (state 1 nan 33 ++ replicate 3976 0))

pub summaries : (κs : Lfts 3) (at : Places) →
    Summary κs at three 3 2 (sevens 8) (sevens 2) 0 (1 ∷ 0 ∷ one ∷ one ∷ 1 ∷ 1 ∷ minus_one ∷ minus_one ∷ []) (0 ∷ 3 ∷ [])
    × Summary κs at (7 ∷ three) 3 2 (sevens 8) (sevens 2) 27 (sevens 8) (27 ∷ 3 ∷ [])
    × Summary κs at three 501 2 (sevens 8) (sevens 2) 27 (sevens 8) (27 ∷ 501 ∷ [])
    × Summary κs at three 3 2 (sevens 7) (sevens 2) 41 (sevens 7) (41 ∷ 3 ∷ [])
    × Summary κs at three 3 2 (sevens 8) (sevens 3) 60 (sevens 8) (sevens 3)
unfolding summary_list of_bits is_nan
summaries κs at = (two_runs, two_runs, two_runs, two_runs, two_runs)

-- ---- A state appended: "the entry of its centre, worked out from the states as they now stand, whatever it was". Under a refusal "the count given".
abbrev four : List ℕ
four = state 0 one 11 ++ (state 1 minus_one 22 ++ (state 1 nan 33 ++ (state 1 one 44 ++ replicate 3968 0)))

pub appends : (κs : Lfts 4) (at : Places) →
    Append κs at (state 1 one 44) three 3 2 (sevens 8) (sevens 2) 0 four (7 ∷ 7 ∷ 7 ∷ 7 ∷ 2 ∷ 1 ∷ minus_one ∷ one ∷ []) (0 ∷ 4 ∷ [])
    × Append κs at (sevens 7) three 3 2 (sevens 8) (sevens 2) 27 three (sevens 8) (27 ∷ 3 ∷ [])
    × Append κs at (state 1 one 44) (7 ∷ three) 3 2 (sevens 8) (sevens 2) 27 (7 ∷ three) (sevens 8) (27 ∷ 3 ∷ [])
    × Append κs at (state 2 one 44) three 3 2 (sevens 7) (sevens 2) 41 three (sevens 7) (41 ∷ 3 ∷ [])
    × Append κs at (state 2 one 44) three 500 2 (sevens 8) (sevens 2) 24 three (sevens 8) (24 ∷ 500 ∷ [])
    × Append κs at (state 1 one 44) three 500 2 (sevens 8) (sevens 2) 42 three (sevens 8) (42 ∷ 500 ∷ [])
    × Append κs at (state 1 one 44) three 3 2 (sevens 8) (sevens 1) 60 three (sevens 8) (sevens 1)
unfolding change_of run_of of_bits is_nan
appends κs at = (three_runs, three_runs, three_runs, three_runs, three_runs, three_runs, three_runs)

-- ---- One withdrawn: "A withdrawn state's followers move down one, and the last record freed keeps its words"; "A centre with no epoch shows +0 twice".
abbrev two : List ℕ
two = state 1 minus_one 22 ++ (state 1 nan 33 ++ (state 1 nan 33 ++ replicate 3976 0))

pub withdraws : (κs : Lfts 3) (at : Places) →
    Withdraw κs at 0 three 3 2 (sevens 8) (sevens 2) 0 two (0 ∷ 0 ∷ 0 ∷ 0 ∷ 7 ∷ 7 ∷ 7 ∷ 7 ∷ []) (0 ∷ 2 ∷ [])
    × Withdraw κs at 0 (7 ∷ three) 3 2 (sevens 8) (sevens 2) 27 (7 ∷ three) (sevens 8) (27 ∷ 3 ∷ [])
    × Withdraw κs at 3 three 3 2 (sevens 9) (sevens 2) 41 three (sevens 9) (41 ∷ 3 ∷ [])
    × Withdraw κs at 1 three 3 1 (sevens 4) (sevens 2) 24 three (sevens 4) (24 ∷ 3 ∷ [])
    × Withdraw κs at 3 three 3 2 (sevens 8) (sevens 2) 42 three (sevens 8) (42 ∷ 3 ∷ [])
    × Withdraw κs at 0 three 3 2 (sevens 8) (sevens 3) 60 three (sevens 8) (sevens 3)
unfolding change_of run_of of_bits is_nan
withdraws κs at = (three_runs, three_runs, three_runs, three_runs, three_runs, three_runs)

-- ---- A file of rows: "the place of the refusal or the rows".
pub checks : (κs : Lfts 3) (at : Places) →
    Check κs at (sevens 7) (sevens 2) (sevens 2) 21 (sevens 2) (21 ∷ 0 ∷ [])
    × Check κs at (as_bytes (2 ∷ replicate 35 0) ++ sevens 7) (sevens 2) (sevens 2) 21 (sevens 2) (21 ∷ 288 ∷ [])
    × Check κs at (as_bytes (401 ∷ [])) (sevens 2) (sevens 2) 23 (sevens 2) (23 ∷ 0 ∷ [])
    × Check κs at (as_bytes (1 ∷ replicate 18 0) ++ (7 ∷ [])) (sevens 2) (sevens 2) 25 (sevens 2) (25 ∷ 152 ∷ [])
    × Check κs at (as_bytes (2 ∷ replicate 36 0)) (sevens 1) (sevens 2) 26 (sevens 1) (26 ∷ 2 ∷ [])
    × Check κs at (as_bytes (0 ∷ [])) (sevens 2) (sevens 2) 0 (sevens 2) (0 ∷ 0 ∷ [])
    × Check κs at (as_bytes (401 ∷ [])) (sevens 2) (sevens 1) 60 (sevens 2) (sevens 1)
unfolding judged_of rows_check each_of verdicts_after word_at as_bytes
checks κs at = (two_runs, two_runs, two_runs, two_runs, two_runs, two_runs, two_runs)

-- ---- Two result files, of P10's row, with its x, and of a row that is refused.
abbrev p10_row : (x : ℕ) → List ℕ
p10_row x = 0 ∷ 21 ∷ x ∷ 0 ∷ 0 ∷ 0 ∷ 0 ∷ 0 ∷ minus_zero ∷ minus_zero ∷ minus_zero ∷ []

abbrev refused_row : List ℕ
refused_row = 3 ∷ 0 ∷ 0 ∷ 0 ∷ 0 ∷ 0 ∷ 0 ∷ 0 ∷ 0 ∷ 0 ∷ 0 ∷ []

abbrev p10_results : List ℕ
p10_results = as_bytes (1 ∷ 1 ∷ p10_row one)

-- "Under a refusal the last four are 0."
abbrev refused_on : (number side place : ℕ) → List ℕ
refused_on number side place = number ∷ side ∷ place ∷ 0 ∷ 0 ∷ 0 ∷ 0 ∷ []

pub compares : (κs : Lfts 4) (at : Places) →
    -- Row 0 is refused on the left alone, and its figures are untold; the x of row 1 is one last place apart, the others are not.
    Compare κs at (as_bytes (1 ∷ 2 ∷ refused_row ++ p10_row one)) (as_bytes (1 ∷ 2 ∷ p10_row one ++ p10_row (one + 1))) (sevens 39) (sevens 7)
    0
    (1 ∷ 3 ∷ 0 ∷ 3 ∷ 0 ∷ 3 ∷ 0 ∷ 3 ∷ 0 ∷ 3 ∷ 0 ∷ 3 ∷ 0 ∷ 3 ∷ 0 ∷ 3 ∷ 0 ∷ 3 ∷ 0
    ∷ 0 ∷ 0 ∷ 1 ∷ 0 ∷ 0 ∷ 0 ∷ 0 ∷ 0 ∷ 0 ∷ 0 ∷ 0 ∷ 0 ∷ 0 ∷ 0 ∷ 0 ∷ 0 ∷ 0 ∷ 0 ∷ 0
    ∷ 7 ∷ [])
    (0 ∷ 0 ∷ 0 ∷ 2 ∷ 1 ∷ 2 ∷ 1 ∷ [])
    -- "21, 22, 23 and 25, left file first", then the right one; 51; 26 with the words needed.
    × Compare κs at [] [] (sevens 19) (sevens 7) 21 (sevens 19) (refused_on 21 0 0)
    × Compare κs at (as_bytes (2 ∷ [])) [] (sevens 19) (sevens 7) 22 (sevens 19) (refused_on 22 0 0)
    × Compare κs at (as_bytes (1 ∷ 1501 ∷ [])) [] (sevens 19) (sevens 7) 23 (sevens 19) (refused_on 23 0 8)
    × Compare κs at (p10_results ++ (7 ∷ [])) [] (sevens 19) (sevens 7) 25 (sevens 19) (refused_on 25 0 104)
    × Compare κs at p10_results (take 103 p10_results) (sevens 19) (sevens 7) 21 (sevens 19) (refused_on 21 1 96)
    × Compare κs at p10_results (as_bytes (2 ∷ [])) (sevens 19) (sevens 7) 22 (sevens 19) (refused_on 22 1 0)
    × Compare κs at p10_results (as_bytes (1 ∷ 1501 ∷ [])) (sevens 19) (sevens 7) 23 (sevens 19) (refused_on 23 1 8)
    × Compare κs at p10_results (p10_results ++ (7 ∷ [])) (sevens 19) (sevens 7) 25 (sevens 19) (refused_on 25 1 104)
    × Compare κs at p10_results (as_bytes (1 ∷ 0 ∷ [])) (sevens 19) (sevens 7) 51 (sevens 19) (refused_on 51 0 0)
    × Compare κs at p10_results p10_results (sevens 18) (sevens 7) 26 (sevens 18) (refused_on 26 0 19)
    × Compare κs at p10_results p10_results (sevens 19) (sevens 6) 60 (sevens 19) (sevens 6)
unfolding run_after comparison_words comparison_of word_at as_bytes rows_told row_at figures_told largest_of largest_in_row row_kind_of figure_of of_bits
compares κs at = (two_runs, two_runs, two_runs, two_runs, two_runs, two_runs, two_runs, two_runs, two_runs, two_runs, two_runs, two_runs)
