-- Document 01, "Results and partials", its first paragraph, with refusals 7 and 8.
use Rattle.std.specs.Prelude.{Bool, not, List, [], ◌∷◌, ◌++◌, Float, Result, Ok, Err}
use Rattle.std.specs.Float.Ieee.{lt, neg}
use Rattle.bits.specs.Choice.{pick}
use Rattle.bits.specs.Arithmetic.{◌⊕◌, ◌⊖◌, ◌⊗◌, ◌⊘◌, n0, n1}
use Rattle.bits.specs.Words.{words_of}
use Rattle.bits.specs.Runs.{has}
use Rattle.bits.specs.declared.runs.Sought.TheVariants as sought
use Rattle.bits.specs.declared.refusal.Refusal.{Refusal}
use Rattle.bits.specs.declared.refusal.Refusal.TheVariants.{RadiusNotPositive, EndNotFinite}
use Rattle.series.specs.Series.{coefficients_of, sums_of}
use Rattle.series.specs.declared.figures.Anomaly.{Anomaly}
use Rattle.series.specs.declared.figures.Seconds.{Seconds}
use Rattle.series.specs.declared.figures.Sums.{Sums}
use Rattle.search_points.specs.Residual.{radius_of, terms_of}
use Rattle.search_points.specs.declared.figures.Initial.{Initial}
use Rattle.states_revolutions.specs.declared.figures.Interval.{Interval}
use Rattle.states_start.specs.declared.figures.Vector.{Vector}
use Rattle.states_start.specs.declared.figures.State.{State}
use Rattle.states_start.specs.declared.figures.Start.{Start}
use Rattle.states_arcs.specs.declared.figures.Factors.{Factors}
use Rattle.states_arcs.specs.declared.figures.Arc.{Arc}
use Rattle.states_arcs.specs.declared.figures.Results.{Results}

-- "f = 1−(μ·s2)/r0; g = τ−μ·s3; f' = −((μ·s1)/(r·r0)); g' = 1−(μ·s2)/r"; T-04: "the search and f, g use τ − n·P".
unfoldable pub factors_of : Initial → Seconds → Sums → (r : Float) → Factors
factors_of i tau s r =
    record {
      f = n1 ⊖ (i.mu ⊗ s.s2) ⊘ i.r0;
      g = tau.0 ⊖ i.mu ⊗ s.s3;
      fprime = neg ((i.mu ⊗ s.s1) ⊘ (r ⊗ i.r0));
      gprime = n1 ⊖ (i.mu ⊗ s.s2) ⊘ r;
    }

-- "f·x+g·vx and so on"
abbrev pub combined : (f g : Float) (position velocity : Vector) → Vector
combined f g q u = record { x = f ⊗ q.x ⊕ g ⊗ u.x; y = f ⊗ q.y ⊕ g ⊗ u.y; z = f ⊗ q.z ⊕ g ⊗ u.z }

-- "Position is f·x+g·vx and so on, velocity f'·x+g'·vx."
unfoldable pub end_state_of : Factors → State → State
end_state_of k s =
    record {
      position = combined k.f k.g s.position s.velocity;
      velocity = combined k.fprime k.gprime s.position s.velocity;
    }

-- All of this at the found ψ, with its c0 to c5, its s1 to s3 and its r.
unfoldable pub arc_of : Start → Interval → Anomaly → Arc
arc_of start interval psi =
    let i = start.initial in
    let c = coefficients_of i.alpha psi in
    let s = sums_of psi c in
    let r = radius_of i (terms_of c.c0 s) in
    let k = factors_of i interval.searched s r in
    record { start = start; interval = interval; psi = psi; c = c; s = s; r = r; factors = k; end = end_state_of k start.state }

-- "Acceleration is ((−μ)·x)/((r·r)·r) with the position and radius of its own time."
unfoldable pub acceleration_of : (mu r : Float) → Vector → Vector
acceleration_of mu r q =
    record {
      x = (neg mu ⊗ q.x) ⊘ ((r ⊗ r) ⊗ r);
      y = (neg mu ⊗ q.y) ⊘ ((r ⊗ r) ⊗ r);
      z = (neg mu ⊗ q.z) ⊘ ((r ⊗ r) ⊗ r);
    }

unfoldable pub results_of : Arc → Results
results_of a =
    let i = a.start.initial in
    record {
      end = a.end;
      end_acceleration = acceleration_of i.mu a.r a.end.position;
      start_acceleration = acceleration_of i.mu i.r0 a.start.state.position;
      psi = a.psi;
    }

-- The divisors of f, f', g' and of the acceleration at the end and at the start.
abbrev pub end_divisors : (r0 r : Float) → List Float
end_divisors r0 r = r0 ∷ (r ⊗ r0) ∷ r ∷ ((r ⊗ r) ⊗ r) ∷ ((r0 ⊗ r0) ⊗ r0) ∷ []

-- "A figure of the answer": position, velocity, both accelerations and ψ.
abbrev pub components : Vector → List Float
components v = v.x ∷ v.y ∷ v.z ∷ []

unfoldable pub figures_of : Results → List Float
figures_of r =
    components r.end.position
    ++ components r.end.velocity
    ++ components r.end_acceleration
    ++ components r.start_acceleration
    ++ (r.psi.0 ∷ [])

-- Refusal 7: "r at the found ψ isn't greater than zero". A NaN isn't.
abbrev pub is_not_above : Float → Bool
is_not_above r = not (lt n0 r)

-- Refusal 8: "a divisor under Results and partials is zero, or a figure of the answer isn't finite", without the partials' own, which crate `states_partials`
-- adds.
unfoldable pub ended_of : Arc → Result Results Refusal
ended_of a =
    pick (is_not_above a.r) (Err RadiusNotPositive)
    (pick (has sought.Zero (words_of (end_divisors a.start.initial.r0 a.r))) (Err EndNotFinite)
    (pick (has sought.NotFinite (words_of (figures_of (results_of a)))) (Err EndNotFinite)
    (Ok (results_of a))))
