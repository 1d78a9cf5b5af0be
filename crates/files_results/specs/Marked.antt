-- Document 01's marked cases, P1 to P12 and P10's whole result file, and some of T-04 and T-05: what each asks, what it must give, and one
-- statement, computed from the definitions.
use Rattle.std.specs.Prelude.{◌≡◌, refl, List, [], ◌∷◌, ◌++◌, map, ℕ}
use Rattle.std.specs.Float.{binary64}
use Rattle.std.specs.Float.Ieee.{add, sub, mul, div, neg, lt, eq, ne, of_int, of_bits, to_bits}
use Rattle.bits.specs.Words.{minus_zero, words_of}
use Rattle.bits.specs.Runs.{first_of, has}
use Rattle.bits.specs.Root.{root_refusal_of, root_word_of, root_of}
use Rattle.series.specs.declared.figures.Coefficients.{Coefficients}
use Rattle.series.specs.Series.{beyond_one, reduced_from, nested, c4_of, c5_of, at_reduced, doublings, quotients_of, coefficients_of, sums_of}
use Rattle.search_points.specs.Residual.{time_error_of, radius_of}
use Rattle.search_points.specs.Trial.{anomaly_at, sort_of, evaluated_at, trial_at}
use Rattle.search_rule.specs.Rule.{onward, outward, halving, round, inward, history, counted}
use Rattle.search.specs.Search.{search_choosing}
use Rattle.states_revolutions.specs.Floor.{floor_of}
use Rattle.states_revolutions.specs.Revolutions.{revolution_of, is_closed, is_usable, course_of, as_it_is, without_n, without_revolutions, interval_of}
use Rattle.states_arcs.specs.Results.{factors_of, end_state_of, arc_of, acceleration_of, results_of, figures_of, ended_of}
use Rattle.states_start.specs.Given.{read_of}
use Rattle.states_start.specs.Initial.{dot, begun_of, first_step_of}
use Rattle.states.specs.Call.{
  reached_found,
  reached_over_by,
  reached_from_by,
  reached_orbit_by,
  reached_words_by,
  ended_answer,
  propagate_by,
  propagate_of,
  answer_words,
}
use Rattle.files_words.specs.Bytes.{as_bytes}
use Rattle.files_reader.specs.Cases.{p10_file}
use Rattle.files_reader.specs.Reader.{reading_of}
use Rattle.files_results.specs.Requests.{request_words}
use Rattle.files_results.specs.Results.{refused_row, row_of, rows_of, result_file}

-- What a case asks for: the root of a word; the coefficients at L = +0, by α and ψ; a call of eight words, all as words; the result file of an
-- element file, by its bytes.
pub data Asked : Type 0 where
  root : ℕ → Asked
  coefficients : (alpha psi : ℕ) → Asked
  call : List ℕ → Asked
  file : List ℕ → Asked

-- c0, c1 and c2.
abbrev first_three : Coefficients → List ℕ
first_three c = words_of (c.c0 ∷ c.c1 ∷ c.c2 ∷ [])

-- What it gives: a root's refusal and word; c0, c1 and c2; a call's 15 words; a file's bytes.
abbrev pub given : Asked → List ℕ
given (root word) = root_refusal_of word ∷ root_word_of word ∷ []
given (coefficients alpha psi) = first_three (coefficients_of (of_bits binary64 alpha) (record { 0 = of_bits binary64 psi }))
given (call words) = answer_words (propagate_of words)
given (file bytes) = result_file bytes

-- A case: what is asked, and what it must give.
pub record Case : Type 0 where
  pub asked : Asked
  pub must : List ℕ

-- ---- Words that the cases share.
abbrev one : ℕ
one = 0x3ff0000000000000

abbrev minus_one : ℕ
minus_one = 0xbff0000000000000

-- "A refusal carries the trial points used so far .., all other figures +0".
abbrev refused_with : (refusal points : ℕ) → List ℕ
refused_with refusal points = refusal ∷ points ∷ 0 ∷ 0 ∷ 0 ∷ 0 ∷ 0 ∷ 0 ∷ 0 ∷ 0 ∷ 0 ∷ 0 ∷ 0 ∷ 0 ∷ 0 ∷ []

-- "(Others zero in P6 to P9.)"
abbrev at_x : ℕ → List ℕ
at_x x = 0 ∷ x ∷ 0 ∷ 0 ∷ 0 ∷ 0 ∷ 0 ∷ 0 ∷ []

-- "μ = 0, position (1,0,0)", with the velocity's y.
abbrev at_one : (vy tau : ℕ) → List ℕ
at_one vy tau = 0 ∷ one ∷ 0 ∷ 0 ∷ 0 ∷ vy ∷ 0 ∷ tau ∷ []

-- At rest there: no force, so both accelerations are −(+0) and the position stays.
abbrev stays_with : (points psi : ℕ) → List ℕ
stays_with points psi =
    0 ∷ points ∷ one ∷ 0 ∷ 0 ∷ 0 ∷ 0 ∷ 0 ∷ minus_zero ∷ minus_zero ∷ minus_zero ∷ minus_zero ∷ minus_zero ∷ minus_zero ∷ psi ∷ []

-- T-04: a circle, μ = 1, position (1,0,0), velocity (0,1,0), whose period is 2·π as a double. After three periods, forward or back, it is where it began, "ψ is
-- +0 with no points", and the figures can be worked out by hand.
abbrev around : (tau : ℕ) → List ℕ
around tau = one ∷ one ∷ 0 ∷ 0 ∷ 0 ∷ one ∷ 0 ∷ tau ∷ []

abbrev comes_round : List ℕ
comes_round = 0 ∷ 0 ∷ one ∷ 0 ∷ 0 ∷ 0 ∷ one ∷ 0 ∷ minus_one ∷ minus_zero ∷ minus_zero ∷ minus_one ∷ minus_zero ∷ minus_zero ∷ 0 ∷ []

-- T-05: a file in which each request has one word that is NaN or infinite: its centre's μ; x to vz of its state; its state's epoch; its own time. The last has
-- none: without a force, and so slow that the square of its speed is zero, it goes as P10 does, from 1 s to 2 s, by its velocity times 1 s.
abbrev nan : ℕ
nan = 0x7ff8000000000000

abbrev infinite : ℕ
infinite = 0xfff0000000000000

abbrev two : ℕ
two = 0x4000000000000000

-- 2^−600 and 2^−601.
abbrev slow : ℕ
slow = 0x1a70000000000000

abbrev slower : ℕ
slower = 0x1a60000000000000

-- Centre, epoch, position and velocity, before other words.
abbrev state : (centre epoch x y z vx vy vz : ℕ) → List ℕ → List ℕ
state centre epoch x y z vx vy vz rest = centre ∷ epoch ∷ x ∷ y ∷ z ∷ vx ∷ vy ∷ vz ∷ rest

abbrev bad_words : List ℕ
bad_words =
    1 ∷ 2 ∷ 0 ∷ nan
    ∷ 10
    ∷ (state 1 0 one 0 0 0 0 0
    (state 0 0 nan 0 0 0 0 0
    (state 0 0 one infinite 0 0 0 0
    (state 0 0 one 0 nan 0 0 0
    (state 0 0 one 0 0 infinite 0 0
    (state 0 0 one 0 0 0 nan 0
    (state 0 0 one 0 0 0 0 infinite
    (state 0 nan one 0 0 0 0 0
    (state 0 0 one 0 0 0 0 0
    (state 0 one one 0 0 0 slow slower
    (10 ∷ 0 ∷ one ∷ 1 ∷ one ∷ 2 ∷ one ∷ 3 ∷ one ∷ 4 ∷ one ∷ 5 ∷ one ∷ 6 ∷ one ∷ 7 ∷ one ∷ 8 ∷ infinite ∷ 9 ∷ two ∷ [])))))))))))

abbrev bad_rows : List ℕ
bad_rows =
    1 ∷ 10
    ∷ (refused_row 31 ++ (refused_row 32 ++ (refused_row 33 ++ (refused_row 34 ++ (refused_row 35
    ++ (refused_row 36 ++ (refused_row 37 ++ (refused_row 38 ++ (refused_row 38
    ++ (0 ∷ 21 ∷ one ∷ slow ∷ slower ∷ 0 ∷ slow ∷ slower ∷ minus_zero ∷ minus_zero ∷ minus_zero ∷ []))))))))))

-- P10's result file, byte by byte: 1, 1, 0, 21, the word of 1.0, five zeros, three times minus zero; "Little-endian", the lowest byte first.
abbrev pub p10_result : List ℕ
p10_result =
    1 ∷ 0 ∷ 0 ∷ 0 ∷ 0 ∷ 0 ∷ 0 ∷ 0
    ∷ 1 ∷ 0 ∷ 0 ∷ 0 ∷ 0 ∷ 0 ∷ 0 ∷ 0
    ∷ 0 ∷ 0 ∷ 0 ∷ 0 ∷ 0 ∷ 0 ∷ 0 ∷ 0
    ∷ 21 ∷ 0 ∷ 0 ∷ 0 ∷ 0 ∷ 0 ∷ 0 ∷ 0
    ∷ 0 ∷ 0 ∷ 0 ∷ 0 ∷ 0 ∷ 0 ∷ 0xf0 ∷ 0x3f
    ∷ 0 ∷ 0 ∷ 0 ∷ 0 ∷ 0 ∷ 0 ∷ 0 ∷ 0
    ∷ 0 ∷ 0 ∷ 0 ∷ 0 ∷ 0 ∷ 0 ∷ 0 ∷ 0
    ∷ 0 ∷ 0 ∷ 0 ∷ 0 ∷ 0 ∷ 0 ∷ 0 ∷ 0
    ∷ 0 ∷ 0 ∷ 0 ∷ 0 ∷ 0 ∷ 0 ∷ 0 ∷ 0
    ∷ 0 ∷ 0 ∷ 0 ∷ 0 ∷ 0 ∷ 0 ∷ 0 ∷ 0
    ∷ 0 ∷ 0 ∷ 0 ∷ 0 ∷ 0 ∷ 0 ∷ 0 ∷ 0x80
    ∷ 0 ∷ 0 ∷ 0 ∷ 0 ∷ 0 ∷ 0 ∷ 0 ∷ 0x80
    ∷ 0 ∷ 0 ∷ 0 ∷ 0 ∷ 0 ∷ 0 ∷ 0 ∷ 0x80
    ∷ []

-- ---- The table.
abbrev pub table : List Case
table =
    -- "P1 root of 4 is 2. P2 root of 2.25 is 1.5. P3 root of 2^−1074 is 2^−537. P4 root of −1: 9."
    record { asked = root 0x4010000000000000; must = 0 ∷ 0x4000000000000000 ∷ [] }
    ∷ record { asked = root 0x4002000000000000; must = 0 ∷ 0x3ff8000000000000 ∷ [] }
    ∷ record { asked = root 1; must = 0 ∷ 0x1e60000000000000 ∷ [] }
    ∷ record { asked = root minus_one; must = 9 ∷ 0 ∷ [] }
    -- "P5 L = +0: c0 = c1 = 1, c2 = 1/2." By ψ, and by α; for any two whose L is +0 it is `p5` of crate `series`.
    ∷ record { asked = coefficients one 0; must = one ∷ one ∷ 0x3fe0000000000000 ∷ [] }
    ∷ record { asked = coefficients 0 one; must = one ∷ one ∷ 0x3fe0000000000000 ∷ [] }
    -- "P6 position 0: 3. P7 x NaN: 2. P8 x = 2^−600, y = z = 0: 3. P9 x = 2^600: 4." T-05: "P7 then gives 32".
    ∷ record { asked = call (at_x 0); must = refused_with 3 0 }
    ∷ record { asked = call (at_x 0x7ff8000000000000); must = refused_with 32 0 }
    ∷ record { asked = call (at_x 0x1a70000000000000); must = refused_with 3 0 }
    ∷ record { asked = call (at_x 0x6570000000000000); must = refused_with 4 0 }
    -- "P10 μ = 0, position (1,0,0), at rest, τ = 1: ψ = 1, 21 points. P11 the same, τ = −1: ψ = −1, 21 points."
    ∷ record { asked = call (at_one 0 one); must = stays_with 21 one }
    ∷ record { asked = call (at_one 0 minus_one); must = stays_with 21 minus_one }
    -- "P12 position (1,0,0), velocity (0,2^500,0), μ = 0, τ = 2^40: 6 with 1 point."
    ∷ record { asked = call (at_one 0x5f30000000000000 0x4270000000000000); must = refused_with 6 1 }
    -- T-04: three times the period, which is 401921FB54442D18 hex, and minus that.
    ∷ record { asked = call (around 0x4032d97c7f3321d2); must = comes_round }
    ∷ record { asked = call (around 0xc032d97c7f3321d2); must = comes_round }
    -- "P10 as one request writes, whole: 1, 1, 0, 21, the word of 1.0 .., 0, 0, 0, 0, 0, then three times 8000000000000000 hex (minus zero)."
    ∷ record { asked = file p10_file; must = p10_result }
    -- T-05: 31 to 38 of a result row, by the word of the element file that is not finite.
    ∷ record { asked = file (as_bytes bad_words); must = as_bytes bad_rows }
    -- "A refused file gives three words: 1, 0, its number." Here an empty one.
    ∷ record { asked = file []; must = as_bytes (1 ∷ 0 ∷ 21 ∷ []) }
    ∷ []

-- Each case of the table gives what it must.
pub marked : map (λ (c : Case). given c.asked) table ≡ map (λ (c : Case). c.must) table
unfolding
    result_file reading_of rows_of row_of request_words propagate_by answer_words reached_words_by reached_orbit_by reached_from_by reached_over_by
    reached_found interval_of without_revolutions without_n as_it_is floor_of course_of is_closed is_usable revolution_of of_int ended_answer
    read_of begun_of dot first_step_of ended_of figures_of results_of acceleration_of arc_of end_state_of factors_of has first_of search_choosing history
    inward round halving outward onward counted trial_at evaluated_at sort_of anomaly_at time_error_of radius_of coefficients_of sums_of quotients_of
    doublings at_reduced c4_of c5_of nested reduced_from beyond_one root_of root_word_of as_bytes add sub mul div neg lt eq ne of_bits to_bits
marked = refl
