-- The time error and the radius at an anomaly, by its series (document 01, "Initial figures and series").
use Rattle.std.specs.Prelude.{Float}
use Rattle.bits.specs.Arithmetic.{◌⊕◌, ◌⊖◌, ◌⊗◌}
use Rattle.series.specs.declared.figures.Seconds.{Seconds}
use Rattle.series.specs.declared.figures.Sums.{Sums}
use Rattle.search_points.specs.declared.figures.Initial.{Initial}
use Rattle.search_points.specs.declared.figures.Terms.{Terms}

-- "The time error is R = ((r0·s1+σ0·s2)+μ·s3)−τ"
unfoldable pub time_error_of : Initial → Seconds → Sums → Float
time_error_of i tau s = ((i.r0 ⊗ s.s1 ⊕ i.sigma0 ⊗ s.s2) ⊕ i.mu ⊗ s.s3) ⊖ tau.0

-- "r = (r0·c0+σ0·s1)+μ·s2"
unfoldable pub radius_of : Initial → Terms → Float
radius_of i t = (i.r0 ⊗ t.c0 ⊕ i.sigma0 ⊗ t.s1) ⊕ i.mu ⊗ t.s2

-- What the radius is made of, from the c0 and the sums of an anomaly.
abbrev pub terms_of : (c0 : Float) → Sums → Terms
terms_of c0 s = record { c0 = c0; s1 = s.s1; s2 = s.s2 }
