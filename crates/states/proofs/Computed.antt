-- For calls of eight words that the checker computes: what they are computed by, and what a refused one answers.
use mathlib.Core.List.{List, [], ◌∷◌}
use Prim.Native.Nat.{ℕ}
use lib.Ieee.{add, sub, mul, div, neg, lt, eq, ne, of_int, of_bits, to_bits}
use Rattle.bits.specs.Runs.{first_of, has}
use Rattle.bits.specs.Root.{root_word_of, root_of}
use Rattle.series.specs.Series.{beyond_one, reduced_from, nested, c4_of, c5_of, at_reduced, doublings, quotients_of, coefficients_of, sums_of}
use Rattle.search_points.specs.Residual.{time_error_of, radius_of}
use Rattle.search_points.specs.Trial.{anomaly_at, sort_of, evaluated_at, trial_at}
use Rattle.search_rule.specs.Rule.{onward, outward, halving, round, inward, history, counted}
use Rattle.search_rule.specs.Nearer.{nearer_end}
use Rattle.search_proposals.specs.Proposals.{offered_at, by_radius, by_interval, by_ends, proposed}
use Rattle.search.specs.Search.{search_choosing}
use Rattle.states_revolutions.specs.Floor.{floor_of}
use Rattle.states_revolutions.specs.Revolutions.{revolution_of, is_closed, is_usable, course_of, as_it_is, without_n, without_revolutions, interval_of}
use Rattle.states_arcs.specs.Results.{factors_of, end_state_of, arc_of, acceleration_of, results_of, figures_of, ended_of}
use Rattle.states_start.specs.Given.{read_of}
use Rattle.states_start.specs.Initial.{dot, begun_of, first_step_of}
use Rattle.states.specs.Call.{
  reached_found,
  reached_over_by,
  reached_from_by,
  reached_orbit_by,
  reached_words_by,
  ended_answer,
  propagate_by,
  propagate_of,
  answer_words,
}

-- The fifteen words of an answer, down to the operations on doubles: a case that says `unfolding state_answer` opens all of it.
unfoldable pub state_answer : List ℕ → List ℕ
unfolding
    propagate_by answer_words reached_words_by reached_orbit_by reached_from_by reached_over_by reached_found interval_of without_revolutions without_n as_it_is floor_of
    course_of is_closed is_usable revolution_of of_int ended_answer read_of begun_of dot first_step_of ended_of figures_of results_of
    acceleration_of arc_of end_state_of factors_of has first_of search_choosing history inward round halving outward onward counted trial_at evaluated_at
    sort_of anomaly_at time_error_of radius_of coefficients_of sums_of quotients_of doublings at_reduced c4_of c5_of nested reduced_from beyond_one root_of
    root_word_of offered_at by_radius by_interval by_ends proposed nearer_end add sub mul div neg lt eq ne of_bits to_bits
state_answer words = answer_words (propagate_of words)

-- "A refusal carries the trial points used so far .., all other figures +0".
abbrev pub refused_with : (refusal points : ℕ) → List ℕ
refused_with refusal points = refusal ∷ points ∷ 0 ∷ 0 ∷ 0 ∷ 0 ∷ 0 ∷ 0 ∷ 0 ∷ 0 ∷ 0 ∷ 0 ∷ 0 ∷ 0 ∷ 0 ∷ []
