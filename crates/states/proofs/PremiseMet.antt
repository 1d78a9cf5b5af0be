-- The premises of the promises can be met. P10 of document 01 passes refusals 1 to 4, its time isn't zero, and an anomaly can be found: so one is, whatever proposes. Of a circle revolutions come off, and
-- nothing is left to search.
use Prim.Native.Nat.{ℕ}
use mathlib.Core.Path.{◌≡◌, refl, sym, ◌∙◌, ap, subst}
use mathlib.Core.Bool.{true, false}
use mathlib.Core.List.{List, [], ◌∷◌}
use lib.Ieee.{binary64, add, sub, mul, div, neg, lt, eq, of_int, of_bits, to_bits}
use Rattle.std.specs.Prelude.{Option, Some, None, Result, Ok, Err}
use Rattle.bits.specs.Arithmetic.{n0}
use Rattle.bits.specs.declared.refusal.Refusal.{Refusal}
use Rattle.bits.specs.Runs.{first_of, has}
use Rattle.bits.specs.Root.{root_word_of, root_of}
use Rattle.search.specs.Search.{Proposing}
use Rattle.search.proofs.Witness.{place_of_h, findable}
use Rattle.search_points.proofs.AtRest.{at_rest, one_second}
use Rattle.search_points.specs.Trial.{trial_at}
use Rattle.search_rule.specs.RulePromise.{Findable}
use Rattle.states_revolutions.specs.Floor.{floor_of}
use Rattle.states_revolutions.specs.Revolutions.{revolution_of, is_closed, is_usable, course_of, as_it_is, without_n, without_revolutions, interval_of}
use Rattle.states_revolutions.specs.declared.figures.WholeInterval.{WholeInterval}
use Rattle.states_revolutions.specs.declared.figures.Revolution.{Revolution}
use Rattle.states_start.specs.Given.{read_of}
use Rattle.states_start.specs.Initial.{dot, begun_of, first_step_of}
use Rattle.states_start.specs.declared.figures.Vector.{Vector}
use Rattle.states_start.specs.declared.figures.Orbit.{Orbit}
use Rattle.states_start.specs.declared.figures.Start.{Start}
use Rattle.states_start.specs.declared.figures.Given.{Given}
use Rattle.states_start.specs.declared.figures.Begun.{Begun}
use Rattle.states.specs.Call.{propagate_by}
use Rattle.states.specs.CallPromise.{Searches, searched_in, EndsWith, Reports, AtOnce, NoneComesOff, first_place}
use Rattle.states.proofs.CallPromise.{finds_anomaly, nothing_searched}

-- "μ = 0, position (1,0,0), at rest, τ = 1"
abbrev pub p10 : List ℕ
p10 = 0 ∷ 0x3ff0000000000000 ∷ 0 ∷ 0 ∷ 0 ∷ 0 ∷ 0 ∷ 0x3ff0000000000000 ∷ []

abbrev vector : ℕ → Vector
vector x = record { x = of_bits binary64 x; y = of_bits binary64 0; z = of_bits binary64 0 }

abbrev orbit : Orbit
orbit = record { mu = n0; state = record { position = vector 0x3ff0000000000000; velocity = vector 0 } }

abbrev start : Start
start = record { state = orbit.state; initial = at_rest }

abbrev whole : WholeInterval
whole = record { 0 = one_second.0 }

pub p10_searches : Searches interval_of p10
unfolding interval_of as_it_is is_closed course_of lt read_of first_of has dot begun_of first_step_of root_word_of root_of add sub mul div eq of_bits to_bits
p10_searches = record { orbit = orbit; whole = whole; start = start; course = None; reads = refl; begins = refl; steps = refl }

first_place_lem : first_place start one_second ≡ place_of_h
unfolding first_step_of mul div of_bits to_bits
first_place_lem = refl

nonzero : eq one_second.0 n0 ≡ false
unfolding eq of_bits
nonzero = refl

pub p10_found : (pr : Proposing) → Reports pr start (as_it_is whole) EndsWith (propagate_by interval_of pr p10)
unfolding p10_searches interval_of as_it_is
p10_found pr = (finds_anomaly interval_of pr p10 p10_searches nonzero (subst (Findable (trial_at at_rest one_second)) (sym first_place_lem) findable)).0

-- No revolution comes off P10: its orbit does not close.
orbit_in : Result Given Refusal → Orbit
orbit_in (Ok g) = g.orbit
orbit_in (Err r) = orbit

course_in : Result Begun Refusal → Option Revolution
course_in (Ok b) = b.course
course_in (Err r) = None

p10_open : course_in (begun_of (orbit_in (read_of p10))) ≡ None
unfolding orbit_in course_in is_closed course_of lt read_of first_of has dot begun_of root_word_of root_of add sub mul div eq of_bits to_bits
p10_open = refl

nothing_of_open : (d : WholeInterval) → (interval_of None d).off ≡ None
unfolding interval_of as_it_is
nothing_of_open d = refl

pub p10_as_before : NoneComesOff p10
unfolding orbit_in course_in
p10_as_before o d s c reads begins =
    let course : c ≡ None = ap course_in (sym begins) ∙ ap (λ (x : Orbit). course_in (begun_of x)) (ap orbit_in (sym reads)) ∙ p10_open in
    ap (λ (x : Option Revolution). (interval_of x d).off) course ∙ nothing_of_open d

-- Revolutions come off a circle, μ = 1, position (1,0,0), velocity (0,1,0), after three periods of 2·π; it searches, and what it searches is zero.
abbrev pub circle : List ℕ
circle = 0x3ff0000000000000 ∷ 0x3ff0000000000000 ∷ 0 ∷ 0 ∷ 0 ∷ 0x3ff0000000000000 ∷ 0 ∷ 0x4032d97c7f3321d2 ∷ []

abbrev its_orbit : Orbit
its_orbit =
    record {
      mu = of_bits binary64 0x3ff0000000000000;
      state = record { position = vector 0x3ff0000000000000; velocity = record { x = n0; y = of_bits binary64 0x3ff0000000000000; z = n0 } };
    }

abbrev its_start : Start
its_start =
    record {
      state = its_orbit.state;
      initial = record { mu = its_orbit.mu; r0 = of_bits binary64 0x3ff0000000000000; sigma0 = n0; alpha = of_bits binary64 0xbff0000000000000 };
    }

pub circle_searches : Searches interval_of circle
unfolding interval_of as_it_is without_n without_revolutions floor_of revolution_of is_closed is_usable course_of read_of first_of has dot begun_of first_step_of root_word_of root_of add sub mul div neg lt eq of_int of_bits to_bits
circle_searches =
    record {
      orbit = its_orbit;
      whole = record { 0 = of_bits binary64 0x4032d97c7f3321d2 };
      start = its_start;
      course = Some (record { period = record { 0 = of_bits binary64 0x401921fb54442d18 }; anomaly = record { 0 = of_bits binary64 0x401921fb54442d18 } });
      reads = refl;
      begins = refl;
      steps = refl;
    }

nothing_left : eq (searched_in circle_searches).0 n0 ≡ true
unfolding circle_searches interval_of as_it_is without_n without_revolutions floor_of add sub mul div neg lt eq of_int of_bits
nothing_left = refl

pub circle_at_once : (pr : Proposing) → AtOnce (propagate_by interval_of pr circle)
circle_at_once pr = (nothing_searched interval_of pr circle circle_searches nothing_left).0
