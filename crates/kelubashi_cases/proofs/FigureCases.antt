-- Calls whose figures are computed, with what the header and the documents say of them: the number that is returned, every word of the answer and of all that
-- is lent, worked out by hand. The other calls, and how a call is said, are in crate `kelubashi`.
use mathlib.Core.List.{List, [], ◌∷◌, ◌++◌}
use Prim.Native.Nat.{ℕ}
use contract.Lifetimes.{Lfts}
use Rattle.bits.specs.Words.{minus_zero}
use Rattle.bits.specs.Runs.{same_words}
use Rattle.search_check.specs.Passing.{picks, short_passes, past_passes, passes}
use Rattle.search_check.specs.Right.{has_sign_of, is_right_beyond_zero, is_right}
use Rattle.states.proofs.Computed.{state_answer, refused_with}
use Rattle.states.specs.WithPartials.{with_partials, partials_by, lent_by}
use Rattle.states_partials.specs.U.{u_at_found, sums_at_whole, u_of, u_refused}
use Rattle.states_partials.specs.Matrix.{matrix_of}
use Rattle.states_partials.specs.Entries.{plus_of, minus_of, partial_of, unit_of, component_of, entry_of, up_to, entries_of}
use Rattle.states_partials.specs.Partials.{partials_refusal, lent_after}
use Rattle.states_check.specs.Row.{accepts_at, accepts}
use Rattle.files_words.specs.Bytes.{as_bytes, put, word_at}
use Rattle.files_reader.specs.Reader.{reading_of}
use Rattle.files_reader.specs.Cases.{p10_file}
use Rattle.files_results.specs.Requests.{request_words}
use Rattle.files_results.specs.Marked.{p10_result}
use Rattle.files_results.specs.Results.{row_of, rows_of, result_file, outcome_in}
use Rattle.files_check.specs.RowsFile.{rows_check, each_of, verdict_of, judged_of, verdicts_after}
use Rattle.kelubashi.proofs.Calls.{Places, Propagate, Partials, Results, Check}
use Rattle.kelubashi.proofs.CallCases.{one, minus_one, nan, infinite, sevens, one_run, two_runs}

-- ---- A state. P10's answer: it stays at (1,0,0), and both accelerations are −(+0).
abbrev p10_answer : List ℕ
p10_answer = 0 ∷ 21 ∷ one ∷ 0 ∷ 0 ∷ 0 ∷ 0 ∷ 0 ∷ minus_zero ∷ minus_zero ∷ minus_zero ∷ minus_zero ∷ minus_zero ∷ minus_zero ∷ one ∷ []

pub states : (κs : Lfts 1) (at : Places) →
    Propagate κs at 0 one 0 0 0 0 0 one (sevens 15) 0 p10_answer
    -- μ = 343, position (2,3,6), whose radius is 7, velocity (1,5,4), τ = 0: both accelerations are (−2,−3,−6).
    × Propagate κs at 0x4075700000000000 0x4000000000000000 0x4008000000000000 0x4018000000000000 one 0x4014000000000000 0x4010000000000000 0 (sevens 15)
    0
    (0 ∷ 0 ∷ 0x4000000000000000 ∷ 0x4008000000000000 ∷ 0x4018000000000000 ∷ one ∷ 0x4014000000000000 ∷ 0x4010000000000000
    ∷ 0xc000000000000000 ∷ 0xc008000000000000 ∷ 0xc018000000000000 ∷ 0xc000000000000000 ∷ 0xc008000000000000 ∷ 0xc018000000000000 ∷ 0 ∷ [])
    -- T-05: which of the eight is NaN or infinite, and of two the first.
    × Propagate κs at nan one one one one one one one (sevens 15) 31 (refused_with 31 0)
    × Propagate κs at one infinite one one one one one one (sevens 15) 32 (refused_with 32 0)
    × Propagate κs at one one nan one one one one one (sevens 15) 33 (refused_with 33 0)
    × Propagate κs at one one one infinite one one one one (sevens 15) 34 (refused_with 34 0)
    × Propagate κs at one one one one nan one one one (sevens 15) 35 (refused_with 35 0)
    × Propagate κs at one one one one one infinite one one (sevens 15) 36 (refused_with 36 0)
    × Propagate κs at one one one one one one nan one (sevens 15) 37 (refused_with 37 0)
    × Propagate κs at one one one one one one one infinite (sevens 15) 38 (refused_with 38 0)
    × Propagate κs at one one one infinite one nan one one (sevens 15) 34 (refused_with 34 0)
    -- P6, P9 and P12.
    × Propagate κs at 0 0 0 0 0 0 0 0 (sevens 15) 3 (refused_with 3 0)
    × Propagate κs at 0 0x6570000000000000 0 0 0 0 0 0 (sevens 15) 4 (refused_with 4 0)
    × Propagate κs at 0 one 0 0 0 0x5f30000000000000 0 0x4270000000000000 (sevens 15) 6 (refused_with 6 1)
    -- x = 2^−400: the radius to the third is zero, and divides the acceleration.
    × Propagate κs at 0 0x26f0000000000000 0 0 0 0 0 0 (sevens 15) 8 (refused_with 8 0)
    × Propagate κs at nan one one one one one one one (sevens 14) 60 (sevens 14)
    × Propagate κs at nan one one one one one one one (sevens 16) 60 (sevens 16)
unfolding state_answer
states κs at =
    (one_run, one_run, one_run, one_run, one_run, one_run, one_run, one_run, one_run, one_run, one_run, one_run, one_run, one_run, one_run, one_run, one_run)

-- ---- With partials. P10's: without a force f = g' = 1, f' = −(+0) and g = τ = 1, and every A is a zero. So the blocks are f·I, g·I, f'·I, whose zeros are
-- all minus zero, and g'·I.
abbrev p10_partials : List ℕ
p10_partials =
    one ∷ 0 ∷ 0 ∷ one ∷ 0 ∷ 0
    ∷ 0 ∷ one ∷ 0 ∷ 0 ∷ one ∷ 0
    ∷ 0 ∷ 0 ∷ one ∷ 0 ∷ 0 ∷ one
    ∷ minus_zero ∷ minus_zero ∷ minus_zero ∷ one ∷ 0 ∷ 0
    ∷ minus_zero ∷ minus_zero ∷ minus_zero ∷ 0 ∷ one ∷ 0
    ∷ minus_zero ∷ minus_zero ∷ minus_zero ∷ 0 ∷ 0 ∷ one
    ∷ []

pub partials : (κs : Lfts 2) (at : Places) →
    Partials κs at 0 one 0 0 0 0 0 one (sevens 15) (sevens 36) 0 p10_answer p10_partials
    -- 60 before 1, 1 before all others.
    × Partials κs at nan one one one one one one one (sevens 15) (sevens 35) 1 (refused_with 1 0) (sevens 35)
    × Partials κs at nan one one one one one one one (sevens 15) (sevens 37) 1 (refused_with 1 0) (sevens 37)
    × Partials κs at one one one one one one one nan (sevens 15) (sevens 36) 38 (refused_with 38 0) (sevens 36)
    × Partials κs at 0 one 0 0 0 0x5f30000000000000 0 0x4270000000000000 (sevens 15) (sevens 36) 6 (refused_with 6 1) (sevens 36)
    × Partials κs at nan one one one one one one one (sevens 14) (sevens 35) 60 (sevens 14) (sevens 35)
unfolding
    state_answer partials_by lent_by with_partials partials_refusal lent_after u_at_found sums_at_whole u_of u_refused matrix_of plus_of minus_of partial_of unit_of component_of entry_of
    up_to entries_of
partials κs at = (two_runs, two_runs, two_runs, two_runs, two_runs, two_runs)

-- ---- "P10 as one request writes, whole", by its bytes; the byte behind them stays.
pub results : (κs : Lfts 3) (at : Places) →
    Results κs at p10_file (sevens 105) (sevens 2) 0 (p10_result ++ (7 ∷ [])) (0 ∷ 104 ∷ [])
    × Results κs at p10_file (sevens 103) (sevens 2) 26 (sevens 103) (26 ∷ 104 ∷ [])
unfolding state_answer result_file outcome_in rows_of row_of request_words reading_of put as_bytes word_at
results κs at = (two_runs, two_runs)

-- ---- Another station's rows: P10's, and the same with an anomaly of the other sign. The word behind the verdicts stays.
abbrev p10_row : (psi : ℕ) → List ℕ
p10_row psi = 0 ∷ one ∷ 0 ∷ 0 ∷ 0 ∷ 0 ∷ 0 ∷ one ∷ psi ∷ one ∷ 0 ∷ 0 ∷ 0 ∷ 0 ∷ 0 ∷ minus_zero ∷ minus_zero ∷ minus_zero ∷ []

pub checks : (κs : Lfts 3) (at : Places) →
    Check κs at (as_bytes (2 ∷ p10_row one ++ p10_row minus_one)) (sevens 3) (sevens 2) 0 (1 ∷ 0 ∷ 7 ∷ []) (0 ∷ 2 ∷ [])
unfolding
    state_answer judged_of verdicts_after rows_check word_at as_bytes each_of verdict_of accepts accepts_at same_words is_right is_right_beyond_zero has_sign_of
    passes short_passes past_passes picks
checks κs at = two_runs
