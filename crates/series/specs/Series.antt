-- Document 01, "Initial figures and series (document 003, 3.4)", from "For an anomaly ψ" to s3. Each definition stands under the document's words, in
-- the document's order and letters. α, ψ and L may be any doubles.
use Rattle.std.specs.Prelude.{Float, ltb, Bool, true, false, List, [], ◌∷◌, ℕ, zero, suc, ◌+◌}
use Rattle.std.specs.Float.Ieee.{lt}
use Rattle.bits.specs.Choice.{pick}
use Rattle.bits.specs.Arithmetic.{◌⊕◌, ◌⊖◌, ◌⊗◌, ◌⊘◌, half, n1, n2, magnitude}
use Rattle.series.specs.Constants.{sixth, n4, n24, n120, divisors4, divisors5}
use Rattle.series.specs.declared.figures.Anomaly.{Anomaly}
use Rattle.series.specs.declared.figures.Coefficients.{Coefficients}
use Rattle.series.specs.declared.figures.Sums.{Sums}
use Rattle.series.specs.declared.Reduced.{Reduced}
use Rattle.series.specs.declared.FirstTwo.{FirstTwo}

-- "L = α·(ψ·ψ)": the first L.
abbrev pub first_l : Float → Anomaly → Float
first_l alpha psi = alpha ⊗ (psi.0 ⊗ psi.0)

-- "|L| > 1"
unfoldable pub beyond_one : Float → Bool
beyond_one l = lt n1 (magnitude l)

-- "While |L| > 1 divide it by 4; this happens m times, at most 512."
-- For L, with `most` divisions left and m made; `again` is whether |L| > 1.
unfoldable pub reduced_from : (most : ℕ) (again : Bool) (l : Float) (m : ℕ) → Reduced
reduced_from zero again l m = record { l = l; m = m }
reduced_from (suc most) false l m = record { l = l; m = m }
reduced_from (suc most) true l m = reduced_from most (beyond_one (l ⊘ n4)) (l ⊘ n4) (m + 1)

abbrev pub reduced : Float → Reduced
reduced l = reduced_from 512 (beyond_one l) l 0

-- "set p = 1, then p = 1 + (L·p)/d for each d from the last to the first"
unfoldable pub nested : Float → List Float → Float
nested l [] = n1
nested l (d ∷ ds) = n1 ⊕ (l ⊗ nested l ds) ⊘ d

-- "c4 = p/24"
unfoldable pub c4_of : Float → Float
c4_of l = nested l divisors4 ⊘ n24

-- "c5 = p/120"
unfoldable pub c5_of : Float → Float
c5_of l = nested l divisors5 ⊘ n120

-- "With the reduced L": "Then c3 = 1/6+L·c5, c2 = 1/2+L·c4, c1 = 1+L·c3, c0 = 1+L·c2".
unfoldable pub at_reduced : Float → Coefficients
at_reduced l =
    let c4 = c4_of l in
    let c5 = c5_of l in
    let c3 = sixth ⊕ l ⊗ c5 in
    let c2 = half ⊕ l ⊗ c4 in
    let c1 = n1 ⊕ l ⊗ c3 in
    let c0 = n1 ⊕ l ⊗ c2 in
    record { c0 = c0; c1 = c1; c2 = c2; c3 = c3; c4 = c4; c5 = c5 }

-- "Then m times: c1 becomes c0·c1 with the old c0, c0 becomes 2·(c0·c0)−1."
unfoldable pub doublings : (m : ℕ) (c0 c1 : Float) → FirstTwo
doublings zero c0 c1 = record { c0 = c0; c1 = c1 }
doublings (suc m) c0 c1 = doublings m (n2 ⊗ (c0 ⊗ c0) ⊖ n1) (c0 ⊗ c1)

-- "with the first L: c2 = (c0−1)/L, c3 = (c1−1)/L, c4 = (c2−1/2)/L, c5 = (c3−1/6)/L"
unfoldable pub quotients_of : Float → FirstTwo → Coefficients
quotients_of l two =
    let c2 = (two.c0 ⊖ n1) ⊘ l in
    let c3 = (two.c1 ⊖ n1) ⊘ l in
    let c4 = (c2 ⊖ half) ⊘ l in
    let c5 = (c3 ⊖ sixth) ⊘ l in
    record { c0 = two.c0; c1 = two.c1; c2 = c2; c3 = c3; c4 = c4; c5 = c5 }

-- "If m > 0" they are these; else the six at L, which no doubling changes.
abbrev pub coefficients_from : (first : Float) (after : Reduced) → Coefficients
coefficients_from first after =
    let six = at_reduced after.l in
    pick (ltb 0 after.m) (quotients_of first (doublings after.m six.c0 six.c1)) six

unfoldable pub coefficients_of : Float → Anomaly → Coefficients
coefficients_of alpha psi = coefficients_from (first_l alpha psi) (reduced (first_l alpha psi))

-- "s1 = ψ·c1, s2 = (ψ·ψ)·c2, s3 = ((ψ·ψ)·ψ)·c3"
unfoldable pub sums_of : Anomaly → Coefficients → Sums
sums_of psi c = record { s1 = psi.0 ⊗ c.c1; s2 = (psi.0 ⊗ psi.0) ⊗ c.c2; s3 = ((psi.0 ⊗ psi.0) ⊗ psi.0) ⊗ c.c3 }
