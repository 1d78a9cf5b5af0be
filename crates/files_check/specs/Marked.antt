-- Rows with the verdict that document 02 gives them (T-06), through the whole of a file, and files with their refusals; then one statement each, computed from
-- the definitions. All figures are worked out by hand, in small whole numbers.
use Rattle.std.specs.Prelude.{◌≡◌, refl, Result, Ok, Err, List, [], ◌∷◌, ◌++◌, map, ℕ, ◌+◌, length, take}
use Rattle.std.specs.Float.Ieee.{add, sub, mul, div, neg, lt, eq, ne, of_int, of_bits, to_bits}
use Rattle.bits.specs.Words.{minus_zero}
use Rattle.bits.specs.Refusal.{number_of as refusal_number}
use Rattle.bits.specs.Runs.{first_of, has, same_words}
use Rattle.bits.specs.Root.{root_word_of, root_of}
use Rattle.series.specs.Series.{beyond_one, reduced_from, nested, c4_of, c5_of, at_reduced, doublings, quotients_of, coefficients_of, sums_of}
use Rattle.search_points.specs.Residual.{time_error_of, radius_of}
use Rattle.search_points.specs.Trial.{anomaly_at, sort_of, evaluated_at, trial_at}
use Rattle.search_rule.specs.Nearer.{nearer_end}
use Rattle.search_check.specs.Passing.{picks, short_passes, past_passes, passes}
use Rattle.search_check.specs.Right.{has_sign_of, is_right_beyond_zero, is_right}
use Rattle.states_revolutions.specs.Floor.{floor_of}
use Rattle.states_revolutions.specs.Revolutions.{revolution_of, is_closed, is_usable, course_of, as_it_is, without_n, without_revolutions, interval_of}
use Rattle.states_arcs.specs.Results.{factors_of, end_state_of, arc_of, acceleration_of, results_of, figures_of, ended_of}
use Rattle.states_start.specs.Given.{read_of}
use Rattle.states_start.specs.Initial.{dot, begun_of, first_step_of}
use Rattle.states.specs.Call.{reached_found, reached_over_by, reached_from_by, reached_orbit_by, reached_words_by}
use Rattle.states_check.specs.Row.{accepts_at, accepts}
use Rattle.files_words.specs.Bytes.{number_of, bytes_of, as_bytes, words, words_from, word_at}
use Rattle.files_checks.specs.declared.Fault.{Fault}
use Rattle.files_checks.specs.Checks.{walk, count_check, counted_check, filled_check}
use Rattle.files_check.specs.RowsFile.{rows_check, each_of, verdict_of, judged_of, verdicts_after}

-- ---- Rows.

-- A row's 18 words, and its verdict.
pub record Case : Type 0 where
  pub row : List ℕ
  pub verdict : ℕ

abbrev yes : List ℕ → Case
yes row = record { row = row; verdict = 1 }

abbrev no : List ℕ → Case
no row = record { row = row; verdict = 0 }

abbrev one : ℕ
one = 0x3ff0000000000000

abbrev minus_one : ℕ
minus_one = 0xbff0000000000000

abbrev two : ℕ
two = 0x4000000000000000

abbrev three : ℕ
three = 0x4008000000000000

-- At rest on the x axis and without a force: it stays, both accelerations are −(+0), and R is r0·ψ − τ.
abbrev stays : (r0 tau psi : ℕ) → List ℕ
stays r0 tau psi = 0 ∷ r0 ∷ 0 ∷ 0 ∷ 0 ∷ 0 ∷ 0 ∷ tau ∷ psi ∷ r0 ∷ 0 ∷ 0 ∷ 0 ∷ 0 ∷ 0 ∷ minus_zero ∷ minus_zero ∷ minus_zero ∷ []

-- A circle, μ = 1, position (1,0,0), velocity (0,1,0), after three times its period, forward: it is where it began.
abbrev around : (psi : ℕ) → List ℕ
around psi =
    one ∷ one ∷ 0 ∷ 0 ∷ 0 ∷ one ∷ 0 ∷ 0x4032d97c7f3321d2 ∷ psi
    ∷ one ∷ 0 ∷ 0 ∷ 0 ∷ one ∷ 0 ∷ minus_one ∷ minus_zero ∷ minus_zero ∷ []

-- μ = 343, position (2,3,6), whose radius is 7, velocity (1,5,4), τ = 0: the acceleration is (−2,−3,−6), and the nine figures are all different.
abbrev at_once : List ℕ
at_once =
    0x4075700000000000 ∷ two ∷ three ∷ 0x4018000000000000 ∷ one ∷ 0x4014000000000000 ∷ 0x4010000000000000 ∷ 0 ∷ 0
    ∷ two ∷ three ∷ 0x4018000000000000 ∷ one ∷ 0x4014000000000000 ∷ 0x4010000000000000
    ∷ 0xc000000000000000 ∷ 0xc008000000000000 ∷ 0xc018000000000000 ∷ []

-- Below, a small number n for τ or ψ is the word of n times 2^−1074, and minus_zero + n that of its negative: R is 3·ψ − τ, or 2·ψ − τ, in that unit.
abbrev pub table : List Case
table =
    -- P10 and P11: exact.
    yes (stays one one one)
    ∷ yes (stays one minus_one minus_one)
    -- "has the sign of τ": −1 has the place of 1, but not its sign.
    ∷ no (stays one one minus_one)
    -- A neighbour of an exact place: past, with an exact one before it.
    ∷ no (stays one one (one + 1))
    -- The nine "in every bit": a zero of the other sign; and each figure in its own place.
    ∷ no (0 ∷ one ∷ 0 ∷ 0 ∷ 0 ∷ 0 ∷ 0 ∷ one ∷ one ∷ one ∷ minus_zero ∷ 0 ∷ 0 ∷ 0 ∷ 0 ∷ minus_zero ∷ minus_zero ∷ minus_zero ∷ [])
    ∷ yes at_once
    -- R is −1 at 1 and 2 at 2: "the answer T-01 picks" is 1; at 0 and at 3 the neighbour is of the same sort.
    ∷ yes (stays three 4 1)
    ∷ no (stays three 4 2)
    ∷ no (stays three 4 0)
    ∷ no (stays three 4 3)
    -- R is −2 at 1 and 1 at 2: the answer is 2.
    ∷ yes (stays three 5 2)
    ∷ no (stays three 5 1)
    -- R is −1 at 1 and 1 at 2, with r0 = 2: "the short one on a tie", for a τ of either sign.
    ∷ yes (stays two 3 1)
    ∷ no (stays two 3 2)
    ∷ yes (stays two (minus_zero + 3) (minus_zero + 1))
    ∷ no (stays two (minus_zero + 3) (minus_zero + 2))
    -- Place 0 is short, with R = −τ, and has the sign of τ too.
    ∷ yes (stays three 1 0)
    ∷ yes (stays three (minus_zero + 1) minus_zero)
    ∷ no (stays three (minus_zero + 1) 0)
    -- "+0 for zero τ", of either sign.
    ∷ yes (stays one 0 0)
    ∷ yes (stays one minus_zero 0)
    ∷ no (stays one 0 minus_zero)
    -- "T-04's reduction is made first": nothing is left of three revolutions.
    ∷ yes (around 0)
    ∷ no (around minus_zero)
    -- Refusals 3 and 32.
    ∷ no (stays 0 one one)
    ∷ no (stays 0x7ff8000000000000 one one)
    ∷ []

abbrev rows_of : List Case → List ℕ
rows_of [] = []
rows_of (c ∷ cs) = c.row ++ rows_of cs

-- What the run held before, 9s, and what it holds afterwards; the word behind the verdicts stays.
abbrev before : List Case → List ℕ
before [] = 7 ∷ []
before (c ∷ cs) = 9 ∷ before cs

abbrev after : List Case → List ℕ
after [] = 7 ∷ []
after (c ∷ cs) = c.verdict ∷ after cs

-- Each row of the table, in one file, has its verdict.
pub marked : verdicts_after (as_bytes (length table ∷ rows_of table)) (before table) ≡ after table
unfolding
    verdicts_after rows_check filled_check counted_check count_check walk words words_from word_at number_of bytes_of as_bytes each_of verdict_of accepts
    accepts_at reached_words_by reached_orbit_by reached_from_by reached_over_by reached_found interval_of without_revolutions without_n as_it_is floor_of
    course_of is_closed is_usable revolution_of of_int read_of begun_of dot first_step_of ended_of figures_of results_of acceleration_of arc_of end_state_of
    factors_of has first_of same_words is_right is_right_beyond_zero has_sign_of passes short_passes past_passes picks nearer_end trial_at evaluated_at
    sort_of anomaly_at time_error_of radius_of coefficients_of sums_of quotients_of doublings at_reduced c4_of c5_of nested reduced_from beyond_one root_of
    root_word_of add sub mul div neg lt eq ne of_bits to_bits
marked = refl

-- ---- Files.

-- A file's bytes, the words lent for verdicts, and what is answered: the number, and the place or the rows.
pub record FileCase : Type 0 where
  pub file : List ℕ
  pub room : ℕ
  pub number : ℕ
  pub second : ℕ

abbrev answers : List ℕ → (room number second : ℕ) → FileCase
answers file room number second = record { file = file; room = room; number = number; second = second }

-- The first n bytes of a file of one row.
abbrev cut : (n : ℕ) → List ℕ
cut n = take n (as_bytes (1 ∷ stays one one one))

abbrev pub files : List FileCase
files =
    -- "21 at the first word not whole": the count, here of no byte and of seven; the first word of a row, and the last.
    answers [] 400 21 0
    ∷ answers (cut 7) 400 21 0
    ∷ answers (cut 8) 400 21 8
    ∷ answers (cut 15) 400 21 8
    ∷ answers (cut 151) 400 21 144
    -- "23 at 0", before 21 and 25.
    ∷ answers (as_bytes (401 ∷ [])) 400 23 0
    ∷ answers (as_bytes (401 ∷ 0 ∷ [])) 0 23 0
    -- "25 at the first byte left".
    ∷ answers (as_bytes (0 ∷ []) ++ (0 ∷ [])) 400 25 8
    ∷ answers (cut 152 ++ (0 ∷ [])) 0 25 152
    -- "26 where k is below the rows, after the others, with the rows as the second word".
    ∷ answers (cut 152) 0 26 1
    -- "or the rows".
    ∷ answers (cut 152) 1 0 1
    ∷ answers (as_bytes (0 ∷ [])) 0 0 0
    ∷ []

-- An answer as two words.
abbrev as_words : Result ℕ Fault → List ℕ
as_words (Ok rows) = 0 ∷ rows ∷ []
as_words (Err fault) = refusal_number fault.refusal ∷ fault.place ∷ []

pub marked_files : map (λ (c : FileCase). as_words (judged_of c.file c.room)) files ≡ map (λ (c : FileCase). c.number ∷ c.second ∷ []) files
unfolding judged_of rows_check filled_check counted_check count_check walk words words_from word_at number_of bytes_of as_bytes
marked_files = refl
