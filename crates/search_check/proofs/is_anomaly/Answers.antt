-- Each arm is the definition at the sort that the match showed. A short place is a finite double's, and place 0 is not past.
use mathlib.Core.Path.{◌≡◌, sym, ◌∙◌, ap}
use native.Mathlib.Omega.{arith}
use Prim.Native.Nat.{ℕ}
use Rattle.series.specs.declared.figures.Seconds.{Seconds}
use Rattle.search_points.specs.declared.figures.Initial.{Initial}
use Rattle.search_points.specs.declared.figures.Sort.{Sort}
use Rattle.search_points.specs.declared.figures.Trial.{Trial}
use Rattle.search_points.specs.Trial.{trial_at}
use Rattle.search_check.specs.Passing.{passes_as, passes}
use Rattle.search_check.proofs.Sorted.{sorted_readable, past_above}
use Rattle.search_check.proofs.is_anomaly.Goals as goal

-- The trial's sort, as the match shows it, is the place's.
module _ (i : Initial) (tau : Seconds) (p : ℕ) (t : Trial) (e : t ≡ trial_at i tau p) {s : Sort} (shown : t.sort ≡ s) where
  sorted : (trial_at i tau p).sort ≡ s
  sorted = sym (ap (λ (x : Trial). x.sort) e) ∙ shown

  as_sorted : passes_as (trial_at i tau) p s ≡ passes (trial_at i tau) p
  unfolding passes
  as_sorted = sym (ap (passes_as (trial_at i tau) p) sorted)

pub short_passes-requires : goal.short_passes-requires
short_passes-requires c = omega (arith, sorted_readable _ _ _ _ (sorted _ _ _ _ c.try_at.ensures c.in-Short.is) (λ z. z))

pub past_passes-requires : goal.past_passes-requires
past_passes-requires c = past_above _ _ _ _ (sorted _ _ _ _ c.try_at.ensures c.in-Past.is)

pub returns-in-Exact : goal.returns-in-Exact
returns-in-Exact c = as_sorted _ _ _ _ c.try_at.ensures c.in-Exact.is

pub returns-in-Short : goal.returns-in-Short
returns-in-Short c = c.short_passes.ensures ∙ as_sorted _ _ _ _ c.try_at.ensures c.in-Short.is

pub returns-in-Past : goal.returns-in-Past
returns-in-Past c = c.past_passes.ensures ∙ as_sorted _ _ _ _ c.try_at.ensures c.in-Past.is

pub returns-in-Unreadable : goal.returns-in-Unreadable
returns-in-Unreadable c = as_sorted _ _ _ _ c.try_at.ensures c.in-Unreadable.is
