-- Each of the three proposals lies strictly between, where it is one.
use Prim.Native.Nat.{ℕ}
use mathlib.Core.Path.{◌≡◌, refl}
use mathlib.Core.Bool.{Bool, true, false}
use lib.Ieee.{Float, eq}
use Rattle.std.specs.Prelude.{Option, None, Some}
use Rattle.std.specs.Option.{option_or}
use Rattle.bits.specs.Choice.{pick}
use Rattle.bits.specs.Arithmetic.{◌⊖◌, n0, is_finite}
use Rattle.bits.specs.Words.{place_of}
use Rattle.series.specs.declared.figures.Seconds.{Seconds}
use Rattle.search_points.specs.declared.figures.Initial.{Initial}
use Rattle.search_rule.specs.declared.pair.Pair.{Pair}
use Rattle.search_rule.specs.Rule.{is_inside}
use Rattle.search_rule.proofs.Turns.{Fits}
use Rattle.search_points.specs.Residual.{radius_of}
use Rattle.search_proposals.specs.Proposals.{inside_of, offered_at, by_radius, by_interval, by_ends, proposed}

module _ (s : Pair) where
  fits_pick : (b : Bool) (p q : Option ℕ) → Fits s p → Fits s q → Fits s (pick b p q)
  fits_pick true p q f g = f
  fits_pick false p q f g = g

  fits_or : (p q : Option ℕ) → Fits s p → Fits s q → Fits s (option_or p q)
  fits_or None q f g = g
  fits_or (Some place) q f g = f

  inside_fits : (place : ℕ) → Fits s (inside_of s place)
  inside_fits place = by (is_inside s place) refl
    where
      by : (b : Bool) → is_inside s place ≡ b → Fits s (pick b (Some place) None)
      by true e = e
      by false e = tt

  offered_fits : (tau : Seconds) (x : Float) → Fits s (offered_at tau s x)
  unfolding offered_at
  offered_fits tau x = fits_pick (is_finite x) _ None (fits_pick _ (inside_of s (place_of x)) None (inside_fits (place_of x)) tt) tt

  module _ (i : Initial) (tau : Seconds) where
    radius_fits : Fits s (by_radius i tau s)
    unfolding by_radius
    radius_fits = fits_pick (eq (radius_of i s.terms) n0) None _ tt (offered_fits tau _)

    interval_fits : Fits s (by_interval tau s)
    unfolding by_interval
    interval_fits = fits_pick (eq tau.0 n0) None _ tt (offered_fits tau _)

    ends_fits : Fits s (by_ends tau s)
    unfolding by_ends
    ends_fits = fits_pick (eq (s.past.error ⊖ s.short.error) n0) None _ tt (offered_fits tau _)

    pub proposed_fits : Fits s (proposed i tau s)
    unfolding proposed
    proposed_fits =
        fits_or (by_radius i tau s) (option_or (by_interval tau s) (by_ends tau s)) radius_fits
        (fits_or (by_interval tau s) (by_ends tau s) interval_fits ends_fits)
