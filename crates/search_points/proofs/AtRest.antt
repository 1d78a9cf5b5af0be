-- P10 of document 01, μ = 0, position (1,0,0), at rest, τ = 1: every place up to that of 1 is readable, so that the premise of demand 3 can be met.
use Prim.Native.Nat.{ℕ, ◌≤◌}
use mathlib.Core.Path.{◌≡◌}
use native.Mathlib.Omega.{arith}
use lib.Ieee.{of_bits}
use Rattle.bits.specs.Arithmetic.{n0, n1}
use Rattle.series.specs.declared.figures.Seconds.{Seconds}
use Rattle.search_points.specs.declared.figures.Initial.{Initial}
use Rattle.search_points.specs.declared.figures.Sort.TheVariants.{Unreadable}
use Rattle.search_points.specs.Trial.{trial_at}
use Rattle.search_points.proofs.Readable as moderate
use Rattle.search_points.proofs.Readable.{place_of_one, Moderate}

abbrev pub at_rest : Initial
at_rest = record { mu = n0; r0 = n1; sigma0 = n0; alpha = n0 }

abbrev pub one_second : Seconds
one_second = record { 0 = n1 }

at_rest_lem : Moderate 0 at_rest one_second
unfolding of_bits
at_rest_lem = record { alpha = omega arith; r0 = omega arith; sigma0 = omega arith; mu = omega arith; time = omega arith }

pub readable : (p : ℕ) → p ≤ place_of_one → (trial_at at_rest one_second p).sort ≡ Unreadable → ⊥
readable = moderate.readable 0 at_rest one_second (omega arith) at_rest_lem
