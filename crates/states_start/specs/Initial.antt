-- Document 01, "Initial figures and series (document 003, 3.4)", up to H, with refusals 3 and 4. The orbit and τ may be any doubles.
use Rattle.std.specs.Prelude.{◌≡◌, refl, List, [], ◌∷◌, ◌^◌, pos, Float, Result, Ok, Err}
use Rattle.std.specs.Float.{binary64}
use Rattle.std.specs.Float.Ieee.{div, eq, of_bits, of_int}
use Rattle.bits.specs.Choice.{pick}
use Rattle.bits.specs.Arithmetic.{◌⊖◌, ◌⊗◌, ◌⊘◌, n0, n1, n2, magnitude}
use Rattle.bits.specs.Words.{words_of}
use Rattle.bits.specs.Runs.{has}
use Rattle.bits.specs.Root.{root_of}
use Rattle.bits.specs.declared.refusal.Refusal.{Refusal}
use Rattle.bits.specs.declared.refusal.Refusal.TheVariants.{AtCentre, StartNotFinite}
use Rattle.series.specs.declared.figures.Anomaly.{Anomaly}
use Rattle.series.specs.declared.figures.Seconds.{Seconds}
use Rattle.search_points.specs.declared.figures.Initial.{Initial}
use Rattle.bits.specs.declared.runs.Sought.TheVariants.{NotFinite}
use Rattle.states_revolutions.specs.Revolutions.{course_of}
unfoldable pub use Rattle.states_start.specs.Vectors.{dot}
use Rattle.states_start.specs.declared.figures.State.{State}
use Rattle.states_start.specs.declared.figures.Orbit.{Orbit}
use Rattle.states_start.specs.declared.figures.Begun.{Begun}

-- T-04: the period is the state's, and worked out from its initial figures after refusals 3 and 4.
abbrev pub start_from : State → Initial → Begun
start_from s i = record { start = record { state = s; initial = i }; course = course_of i }

-- Refusal 4: "that sum, σ0, v², (2·μ)/r0, α or H below isn't finite"; H belongs to the interval, and its refusal is in Call of crate `states`.
abbrev pub five_figures : (sum sigma0 v2 quotient alpha : Float) → List Float
five_figures sum sigma0 v2 quotient alpha = sum ∷ sigma0 ∷ v2 ∷ quotient ∷ alpha ∷ []

-- "α = v² − (2·μ)/r0". Refusal 3: "(x·x+y·y)+z·z is zero"; then 4.
abbrev pub begun_from : Orbit → (sum r0 sigma0 v2 : Float) → Result Begun Refusal
begun_from o sum r0 sigma0 v2 =
    let quotient = (n2 ⊗ o.mu) ⊘ r0 in
    let alpha = v2 ⊖ quotient in
    pick (eq sum n0) (Err AtCentre)
    (pick (has NotFinite (words_of (five_figures sum sigma0 v2 quotient alpha))) (Err StartNotFinite)
    (Ok (start_from o.state (record { mu = o.mu; r0 = r0; sigma0 = sigma0; alpha = alpha }))))

-- "r0 = root of that sum"
unfoldable pub begun_of : Orbit → Result Begun Refusal
begun_of o =
    let position = o.state.position in
    let velocity = o.state.velocity in
    let sum = dot position position in
    begun_from o sum (root_of sum) (dot position velocity) (dot velocity velocity)

-- "2^−20"
abbrev pub two_to_minus20 : Float
two_to_minus20 = of_bits binary64 0x3eb0000000000000

its_inverse : two_to_minus20 ≡ n1 ⊘ of_int binary64 (pos (2 ^ 20))
unfolding of_bits of_int div
its_inverse = refl

-- "H = (|τ|/r0)·2^−20"; since T-04 τ is the interval that is searched: "H .. then speak of the reduced interval".
unfoldable pub first_step_of : Initial → Seconds → Anomaly
first_step_of i tau = record { 0 = (magnitude tau.0 ⊘ i.r0) ⊗ two_to_minus20 }
