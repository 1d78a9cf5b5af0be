-- The first outward points are short where a test of each says so, one by one: a test that the checker computes.
use Prim.Native.Nat.{ℕ, zero, suc}
use mathlib.Core.Path.{◌≡◌, sym, subst}
use mathlib.Core.Bool.{Bool, true, false, ◌&&◌, true≢false}
use native.Mathlib.Omega.{arith}
use native.Mathlib.Decide.{dec_lt}
use Rattle.bits.proofs.RunLaws.{both}
use Rattle.search_points.specs.declared.figures.Sort.{Sort}
use Rattle.search_points.specs.declared.figures.Sort.TheVariants.{Short, Past, Exact, Unreadable}
use Rattle.search_rule.specs.Rule.{Trials}
use Rattle.search_rule.specs.RulePromise.{IsShort, out_point, ShortBefore}

abbrev pub is_short : Sort → Bool
is_short (Short r) = true
is_short (Past r) = false
is_short Exact = false
is_short Unreadable = false

is_short_lem : (v : Sort) → is_short v ≡ true → IsShort v
is_short_lem (Short r) e = tt
is_short_lem (Past r) e = true≢false (sym e)
is_short_lem Exact e = true≢false (sym e)
is_short_lem Unreadable e = true≢false (sym e)

unfoldable pub are_short : Trials → (first n : ℕ) → Bool
are_short ev first zero = true
are_short ev first (suc n) = are_short ev first n && is_short (ev (out_point first n)).sort

pub each : (ev : Trials) (first n : ℕ) → are_short ev first n ≡ true → ShortBefore ev first n
unfolding are_short
each ev first zero e i h = absurd (omega arith)
each ev first (suc n) e i h =
    let b = both (are_short ev first n) (is_short (ev (out_point first n)).sort) e in
    elim (dec_lt i n) [
      | yes l ↦ each ev first n b.0 i l
      | no g ↦ let q : n ≡ i = omega arith in subst (λ (k : ℕ). IsShort (ev (out_point first k)).sort) q (is_short_lem (ev (out_point first n)).sort b.1)
    ]
