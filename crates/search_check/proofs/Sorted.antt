-- What the code's proofs cite: a short place is below 2047·2^52, and a past place above 0.
use Prim.Native.Nat.{ℕ, ◌<◌}
use mathlib.Core.Path.{◌≡◌, sym, ◌∙◌, subst}
use native.Mathlib.Omega.{arith}
use native.Mathlib.Decide.{dec_lt}
use lib.Ieee.{Float}
use Rattle.bits.specs.Words.{infinity}
use Rattle.series.specs.declared.figures.Seconds.{Seconds}
use Rattle.search_points.specs.declared.figures.Initial.{Initial}
use Rattle.search_points.specs.declared.figures.Sort.{Sort}
use Rattle.search_points.specs.declared.figures.Sort.TheVariants.{Short, Past, Exact, Unreadable}
use Rattle.search_points.specs.Trial.{trial_at}
use Rattle.search_points.proofs.SortLaws.{sorts_mean}
use Rattle.search_rule.specs.RulePromise.{IsShort}

abbrev pub IsUnreadable : Sort → Type 0
IsUnreadable Unreadable = Unit {0}
IsUnreadable (Short r) = ⊥
IsUnreadable (Past r) = ⊥
IsUnreadable Exact = ⊥

module _ (i : Initial) (tau : Seconds) (p : ℕ) where
  -- A place that is not unreadable is a finite double's.
  pub sorted_readable : (s : Sort) → (trial_at i tau p).sort ≡ s → (IsUnreadable s → ⊥) → p < infinity
  sorted_readable s e h = elim (dec_lt p infinity) [
    | yes l ↦ l
    | no g ↦ absurd (h (subst IsUnreadable (sym ((sorts_mean i tau p).is_unreadable_by_psi (omega arith)) ∙ e) tt))
  ]

  pub past_above : (r : Float) → (trial_at i tau p).sort ≡ Past r → 0 < p
  past_above r e = elim (dec_lt 0 p) [
    | yes l ↦ l
    | no g ↦ absurd (subst IsShort (sym ((sorts_mean i tau p).is_short_at_zero (omega arith)) ∙ e) tt)
  ]
