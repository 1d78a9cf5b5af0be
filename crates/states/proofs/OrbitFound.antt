-- The premises of demand 3 can be met with a force, and where revolutions come off and something is left: μ = 2, position (3,4,0), velocity (-1/2,1/4,0),
-- τ = 185.5. Then r0 = 5, σ0 = -1/2 and α = 5/16 − 4/5; five periods of 36.9 come off; the 22nd outward point is the first that isn't short.
use Prim.Native.Nat.{ℕ}
use mathlib.Core.Path.{◌≡◌, refl, sym, subst}
use mathlib.Core.Bool.{true, false}
use mathlib.Core.List.{List, [], ◌∷◌}
use native.Mathlib.Omega.{arith}
use lib.ListN.{length}
use lib.Ieee.{binary64, add, sub, mul, div, neg, lt, eq, ne, of_int, of_bits, to_bits}
use Rattle.std.specs.Prelude.{Option, Some}
use Rattle.bits.specs.Arithmetic.{n0}
use Rattle.bits.specs.Runs.{first_of, has}
use Rattle.bits.specs.Root.{root_word_of, root_of}
use Rattle.series.specs.Series.{beyond_one, reduced_from, nested, c4_of, c5_of, at_reduced, coefficients_of, sums_of}
use Rattle.series.specs.declared.figures.Seconds.{Seconds}
use Rattle.search_points.specs.Residual.{time_error_of, radius_of}
use Rattle.search_points.specs.Trial.{anomaly_at, sort_of, evaluated_at, trial_at}
use Rattle.search_points.specs.declared.figures.Initial.{Initial}
use Rattle.search_points.proofs.Readable.{Moderate, readable}
use Rattle.search_rule.specs.Rule.{Ending, between, exact, unreadable, all_short, ending_of, onward, outward, halving, inward, history}
use Rattle.search_rule.specs.Rule as rule
use Rattle.search_rule.specs.Nearer.{nearer_end}
use Rattle.search_rule.specs.RulePromise.{IsShort, out_point, Findable}
use Rattle.search_rule.proofs.OneByOne.{are_short, each}
use Rattle.search_proposals.specs.Proposals.{offered_at, by_radius, by_interval, by_ends, proposed}
use Rattle.search.specs.Search.{Proposing, history_at}
use Rattle.states_revolutions.specs.Floor.{floor_of}
use Rattle.states_revolutions.specs.Revolutions.{revolution_of, is_closed, is_usable, course_of, as_it_is, without_n, without_revolutions, interval_of}
use Rattle.states_revolutions.specs.declared.figures.WholeInterval.{WholeInterval}
use Rattle.states_revolutions.specs.declared.figures.Revolution.{Revolution}
use Rattle.states_start.specs.Given.{read_of}
use Rattle.states_start.specs.Initial.{dot, begun_of, first_step_of}
use Rattle.states_start.specs.declared.figures.Vector.{Vector}
use Rattle.states_start.specs.declared.figures.Orbit.{Orbit}
use Rattle.states_start.specs.declared.figures.Start.{Start}
use Rattle.states.specs.Call.{orbit_words, propagate_by}
use Rattle.states.specs.WithPartials.{partials_by, lent_by}
use Rattle.states.specs.CallPromise.{Searches, interval_in, searched_in, first_place, EndsWith, EndsWithPartials, Reports}
use Rattle.states.proofs.CallPromise.{finds_anomaly}

abbrev pub words : List ℕ
words = orbit_words 0x4000000000000000 0x4008000000000000 0x4010000000000000 0 0xbfe0000000000000 0x3fd0000000000000 0 0x4067300000000000

abbrev vector : (x y : ℕ) → Vector
vector x y = record { x = of_bits binary64 x; y = of_bits binary64 y; z = n0 }

abbrev orbit : Orbit
orbit =
    record {
      mu = of_bits binary64 0x4000000000000000;
      state = record { position = vector 0x4008000000000000 0x4010000000000000; velocity = vector 0xbfe0000000000000 0x3fd0000000000000 };
    }

abbrev initial : Initial
initial = record { mu = orbit.mu; r0 = of_bits binary64 0x4014000000000000; sigma0 = of_bits binary64 0xbfe0000000000000; alpha = of_bits binary64 0xbfdf333333333334 }

abbrev start : Start
start = record { state = orbit.state; initial = initial }

-- P and Q, and what is left of the interval: from an independent program.
abbrev course : Option Revolution
course = Some (record { period = record { 0 = of_bits binary64 0x4042759c3c081104 }; anomaly = record { 0 = of_bits binary64 0x4021ff78542176fe } })

abbrev whole : WholeInterval
whole = record { 0 = of_bits binary64 0x4067300000000000 }

abbrev left : Seconds
left = record { 0 = of_bits binary64 0x3fecfcb4f5eabb00 }

pub searches : Searches interval_of words
unfolding interval_of as_it_is without_n without_revolutions floor_of revolution_of is_closed is_usable course_of read_of first_of has dot begun_of first_step_of root_word_of root_of add sub mul div neg lt eq of_int of_bits to_bits
searches = record { orbit = orbit; whole = whole; start = start; course = course; reads = refl; begins = refl; steps = refl }

is_left : searched_in searches ≡ left
unfolding searches interval_of as_it_is without_n without_revolutions floor_of add sub mul div neg lt eq of_int of_bits
is_left = refl

nonzero : eq left.0 n0 ≡ false
unfolding eq of_bits
nonzero = refl

-- The place of its H, (left/5)·2^−20.
abbrev place_of_h : ℕ
place_of_h = 0x3e873090c4bbc8cd

first_place_lem : first_place start left ≡ place_of_h
unfolding first_step_of mul div of_bits to_bits
first_place_lem = refl

-- |α| is at most 1 and the other figures are at most 2 ^ 3, so every place up to that of 1 is readable.
moderate : Moderate 3 initial left
unfolding of_bits
moderate = record { alpha = omega arith; r0 = omega arith; sigma0 = omega arith; mu = omega arith; time = omega arith }

twenty_one : are_short (trial_at initial left) place_of_h 21 ≡ true
unfolding are_short add sub mul div neg lt eq ne of_bits beyond_one reduced_from nested c4_of c5_of at_reduced coefficients_of sums_of time_error_of anomaly_at sort_of evaluated_at trial_at
twenty_one = refl

past : IsShort (trial_at initial left (out_point place_of_h 21)).sort → ⊥
unfolding add sub mul div neg lt eq ne of_bits beyond_one reduced_from nested c4_of c5_of at_reduced coefficients_of sums_of time_error_of anomaly_at sort_of evaluated_at trial_at
past s = s

findable : Findable (trial_at initial left) place_of_h
findable =
    record {
      k = 21;
      first_not_short = record { among = omega arith; shorts = each (trial_at initial left) place_of_h 21 twenty_one; not_short = past };
      readable = λ q l. readable 3 initial left (omega arith) moderate q (omega arith);
    }

-- So an anomaly is found, whatever proposes, without partials and with them.
pub found : (pr : Proposing) →
    Reports pr start (interval_in searches) EndsWith (propagate_by interval_of pr words)
    × ((run : List ℕ) → length run ≡ 36 → Reports pr start (interval_in searches) (EndsWithPartials run (lent_by interval_of pr words run)) (partials_by interval_of pr words run))
unfolding searches
found pr =
    finds_anomaly interval_of pr words searches (subst (λ (t : Seconds). eq t.0 n0 ≡ false) (sym is_left) nonzero)
    (subst (λ (t : Seconds). Findable (trial_at initial t) (first_place start t)) (sym is_left) (subst (Findable (trial_at initial left)) (sym first_place_lem) findable))

-- By document 01's three proposals the search closes on a pair, and the past end is answered, whose error is the smaller one. The places are from the
-- independent program.
abbrev pub closed_on : Ending → List ℕ
closed_on (between s) = s.short.place ∷ s.past.place ∷ (nearer_end s.short s.past).place ∷ []
closed_on (exact p) = []
closed_on unreadable = []
closed_on all_short = []

pub closes : closed_on (ending_of (history_at initial left place_of_h)) ≡ 0x3fc76a3d75719ad7 ∷ 0x3fc76a3d75719ad8 ∷ 0x3fc76a3d75719ad8 ∷ []
unfolding ending_of of_bits to_bits neg add sub mul div lt eq ne beyond_one reduced_from nested c4_of c5_of at_reduced coefficients_of sums_of time_error_of radius_of anomaly_at sort_of evaluated_at trial_at onward outward halving rule.round inward history offered_at by_radius by_interval by_ends proposed nearer_end
closes = refl
