-- What the sorts mean, by document 01's own R: "R = ((r0·s1+σ0·s2)+μ·s3)−τ" at ψ, with "s1 = ψ·c1, s2 = (ψ·ψ)·c2, s3 = ((ψ·ψ)·ψ)·c3".
use Rattle.std.specs.Prelude.{◌≡◌, Bool, true, false, ◌⊎◌, ℕ, ◌≤◌, ◌<◌, Float}
use Rattle.std.specs.Float.Ieee.{neg, lt, eq, ne}
use Rattle.bits.specs.Choice.{pick}
use Rattle.bits.specs.Arithmetic.{◌⊕◌, ◌⊖◌, ◌⊗◌, n0, is_finite}
use Rattle.bits.specs.Words.{infinity}
use Rattle.series.specs.Series.{first_l, coefficients_of}
use Rattle.series.specs.declared.figures.Anomaly.{Anomaly}
use Rattle.series.specs.declared.figures.Seconds.{Seconds}
use Rattle.search_points.specs.declared.figures.Initial.{Initial}
use Rattle.search_points.specs.declared.figures.Sort.TheVariants.{Short, Past, Exact, Unreadable}
use Rattle.search_points.specs.Trial.{anomaly_at, trial_at}

abbrev pub error_at : Initial → Seconds → Anomaly → Float
error_at i tau psi =
    let x = psi.0 in
    let c = coefficients_of i.alpha psi in
    ((i.r0 ⊗ (x ⊗ c.c1) ⊕ i.sigma0 ⊗ ((x ⊗ x) ⊗ c.c2)) ⊕ i.mu ⊗ (((x ⊗ x) ⊗ x) ⊗ c.c3)) ⊖ tau.0

-- "R with the sign opposite to τ"
abbrev pub is_opposite : Seconds → Float → Bool
is_opposite tau r = pick (lt tau.0 n0) (lt n0 r) (lt r n0)

-- The error at a place: that of its ψ.
abbrev pub error_of_place : Initial → Seconds → (place : ℕ) → Float
error_of_place i tau p = error_at i tau (anomaly_at tau p)

-- And its L.
abbrev pub l_of_place : Initial → Seconds → (place : ℕ) → Float
l_of_place i tau p = first_l i.alpha (anomaly_at tau p)

-- From place 2047·2^52 on, ψ is not finite.
-- "place 0 is short; ψ or L not finite, or R NaN: unreadable; R = 0: exact; R with the sign opposite to τ: short; else past." "Place 0 has R = −τ here."
pub record SortsMean (i : Initial) (tau : Seconds) (p : ℕ) : Type 0 where
  pub unreadable :
      (trial_at i tau p).sort ≡ Unreadable
      → (infinity ≤ p) ⊎ ((is_finite (l_of_place i tau p) ≡ false) ⊎ (ne (error_of_place i tau p) (error_of_place i tau p) ≡ true))
  pub exact : (trial_at i tau p).sort ≡ Exact → eq (error_of_place i tau p) n0 ≡ true
  pub short : (r : Float) → (trial_at i tau p).sort ≡ Short r → ((p ≡ 0) × (r ≡ neg tau.0)) ⊎ ((r ≡ error_of_place i tau p) × (is_opposite tau r ≡ true))
  pub past : (r : Float) → (trial_at i tau p).sort ≡ Past r → (r ≡ error_of_place i tau p) × (ne r r ≡ false) × (eq r n0 ≡ false) × (is_opposite tau r ≡ false)
  -- The converse, in the same order: "place 0 is short";
  pub is_short_at_zero : p ≡ 0 → (trial_at i tau p).sort ≡ Short (neg tau.0)
  -- "ψ or L not finite, or R NaN: unreadable";
  pub is_unreadable_by_psi : infinity ≤ p → (trial_at i tau p).sort ≡ Unreadable
  pub is_unreadable_by_l : 0 < p → is_finite (l_of_place i tau p) ≡ false → (trial_at i tau p).sort ≡ Unreadable
  pub is_unreadable_by_error : 0 < p → ne (error_of_place i tau p) (error_of_place i tau p) ≡ true → (trial_at i tau p).sort ≡ Unreadable
  -- "R = 0: exact", where L is finite, as it is not where ψ is not;
  pub is_exact : 0 < p → is_finite (l_of_place i tau p) ≡ true → eq (error_of_place i tau p) n0 ≡ true → (trial_at i tau p).sort ≡ Exact
  -- "R with the sign opposite to τ: short";
  pub is_short_lem :
      0 < p → is_finite (l_of_place i tau p) ≡ true → is_opposite tau (error_of_place i tau p) ≡ true → (trial_at i tau p).sort ≡ Short (error_of_place i tau p)
  -- "else past".
  pub is_past :
      0 < p → is_finite (l_of_place i tau p) ≡ true
      → ne (error_of_place i tau p) (error_of_place i tau p) ≡ false
      → eq (error_of_place i tau p) n0 ≡ false
      → is_opposite tau (error_of_place i tau p) ≡ false
      → (trial_at i tau p).sort ≡ Past (error_of_place i tau p)
