-- Document 02, T-04: "For α < 0 and μ > 0, with π the nearest double (400921FB54442D18 hex), the period is P = ((2·π)·μ)/((−α)·root(−α)), n is the
-- floor of the rounded sum τ/P+1/2, and the search and f, g use τ − n·P, each step rounded. This is done only when P is finite and above zero and n is
-- within ±2^40 and not 0; else 01 stands."
use Rattle.std.specs.Prelude.{Bool, ◌&&◌, from_bits, Float, Option, Some, None}
use Rattle.std.specs.Float.{binary64}
use Rattle.std.specs.Float.Ieee.{neg, lt, eq}
use Rattle.bits.specs.Choice.{pick}
use Rattle.bits.specs.Arithmetic.{◌⊕◌, ◌⊖◌, ◌⊗◌, ◌⊘◌, n0, n2, half, is_finite}
use Rattle.bits.specs.Root.{root_of}
use Rattle.search_points.specs.declared.figures.Initial.{Initial}
use Rattle.states_revolutions.specs.Floor.{floor_of}
use Rattle.states_revolutions.specs.declared.figures.WholeInterval.{WholeInterval}
use Rattle.states_revolutions.specs.declared.figures.Revolution.{Revolution}
use Rattle.states_revolutions.specs.declared.figures.Interval.{Interval}

-- "π the nearest double (400921FB54442D18 hex)"
abbrev pub pi : Float
pi = from_bits binary64 0x400921fb54442d18

-- "P = ((2·π)·μ)/((−α)·root(−α))" and "Q = (2·π)/root(−α)"
unfoldable pub revolution_of : Initial → Revolution
revolution_of i =
    let root = root_of (neg i.alpha) in
    record { period = record { 0 = ((n2 ⊗ pi) ⊗ i.mu) ⊘ (neg i.alpha ⊗ root) }; anomaly = record { 0 = (n2 ⊗ pi) ⊘ root } }

-- "For α < 0 and μ > 0"
unfoldable pub is_closed : Initial → Bool
is_closed i = lt i.alpha n0 && lt n0 i.mu

-- "only when P is finite and above zero"
unfoldable pub is_usable : Revolution → Bool
is_usable v = is_finite v.period.0 && lt n0 v.period.0

-- What revolution can come off the intervals of an orbit. It belongs to the state, not to an interval.
unfoldable pub course_of : Initial → Option Revolution
course_of i = pick (is_closed i) (pick (is_usable (revolution_of i)) (Some (revolution_of i)) None) None

-- "else 01 stands": all of the interval is searched.
unfoldable pub as_it_is : WholeInterval → Interval
as_it_is whole = record { whole = whole; searched = record { 0 = whole.0 }; off = None }

-- "the search and f, g use τ − n·P"; the revolutions that come off have the anomaly n·Q. "and not 0"
unfoldable pub without_n : (n : Float) → Revolution → WholeInterval → Interval
without_n n v whole =
    pick (eq n n0) (as_it_is whole)
    (record {
      whole = whole;
      searched = record { 0 = whole.0 ⊖ n ⊗ v.period.0 };
      off = Some (record { 0 = n ⊗ v.anomaly.0 });
    })

-- "n is within ±2^40"
abbrev pub without_floor : Option Float → Revolution → WholeInterval → Interval
without_floor (Some n) v whole = without_n n v whole
without_floor None v whole = as_it_is whole

-- "n is the floor of the rounded sum τ/P+1/2"
unfoldable pub without_revolutions : Revolution → WholeInterval → Interval
without_revolutions v whole = without_floor (floor_of (whole.0 ⊘ v.period.0 ⊕ half)) v whole

unfoldable pub interval_of : Option Revolution → WholeInterval → Interval
interval_of (Some v) whole = without_revolutions v whole
interval_of None whole = as_it_is whole
