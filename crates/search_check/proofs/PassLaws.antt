-- A place passes exactly where it is an anomaly's, for any trial function; and two points of that function are all that it takes.
use Prim.Native.Nat.{ℕ, zero, suc, ◌+◌, ◌-◌}
use mathlib.Core.Path.{◌≡◌, refl, sym, ap, ◌∙◌, subst}
use mathlib.Core.Bool.{Bool, true, false, true≢false}
use mathlib.Core.Logic.{◌⊎◌, inl, inr, ⊎_elim}
use native.Mathlib.Omega.{arith}
use borrow.Author.Tests.{eqb-true, eq-eqb}
use lib.Ieee.{Float}
use Rattle.search_points.specs.declared.figures.Sort.{Sort}
use Rattle.search_points.specs.declared.figures.Sort.TheVariants.{Short, Past, Exact, Unreadable}
use Rattle.search_points.specs.declared.figures.Trial.{Trial}
use Rattle.search_rule.specs.declared.pair.End.{End}
use Rattle.search_rule.specs.Rule.{Trials, end_at}
use Rattle.search_rule.specs.Nearer.{is_smaller, nearer_end}
use Rattle.search_rule.specs.RulePromise.{IsShort, IsAnomaly, Neighbours}
use Rattle.search_rule.proofs.Nearest.{chosen_so}
use Rattle.search_check.specs.Passing.{picks, short_beside, past_beside, short_passes, past_passes, passes_as, passes, PassesExactly, SameTwo, TwoPoints}

picked : (short past : End) (p : ℕ) → picks short past p ≡ true → p ≡ (nearer_end short past).place
unfolding picks
picked short past p h = sym (eqb-true (nearer_end short past).place p h)

picks_it : (short past : End) (p : ℕ) → p ≡ (nearer_end short past).place → picks short past p ≡ true
unfolding picks
picks_it short past p e = eq-eqb (nearer_end short past).place p (sym e)

-- The nearer end is one of the two.
pub one_of : (short past : End) → (nearer_end short past ≡ short) ⊎ (nearer_end short past ≡ past)
one_of short past = by (is_smaller past.error short.error) refl
  where
    by : (b : Bool) → is_smaller past.error short.error ≡ b → (nearer_end short past ≡ short) ⊎ (nearer_end short past ≡ past)
    by true e = inr ((chosen_so short past).past_nearer e)
    by false e = inl ((chosen_so short past).short_else e)

module _ (ev : Trials) (p : ℕ) where
  -- ---- What passes is an anomaly's place.
  beside_short : (r : Float) (s : Sort) → (ev p).sort ≡ Short r → (ev (p + 1)).sort ≡ s → short_beside (end_at p r) s ≡ true → IsAnomaly ev p
  beside_short r (Past q) e f h =
      inr (end_at p r, end_at (p + 1) q, record { short_is = e; past_is = f; adjacent = refl }, picked (end_at p r) (end_at (p + 1) q) p h)
  beside_short r (Short q) e f h = absurd (true≢false (sym h))
  beside_short r Exact e f h = absurd (true≢false (sym h))
  beside_short r Unreadable e f h = absurd (true≢false (sym h))

  -- Place 0 has no place before it: its own sort would be both.
  not_zero : (r q : Float) → (ev p).sort ≡ Past r → (ev (p - 1)).sort ≡ Short q → p ≡ (p - 1) + 1
  not_zero r q e f = go p refl
    where
      go : (n : ℕ) → p ≡ n → p ≡ (p - 1) + 1
      go zero z = let same : p - 1 ≡ p = omega arith in absurd (subst IsShort (sym f ∙ ap (λ (x : ℕ). (ev x).sort) same ∙ e) tt)
      go (suc n) z = omega arith

  beside_past : (r : Float) (s : Sort) → (ev p).sort ≡ Past r → (ev (p - 1)).sort ≡ s → past_beside (end_at p r) s ≡ true → IsAnomaly ev p
  beside_past r (Short q) e f h =
      inr (end_at (p - 1) q, end_at p r, record { short_is = f; past_is = e; adjacent = not_zero r q e f }, picked (end_at (p - 1) q) (end_at p r) p h)
  beside_past r (Past q) e f h = absurd (true≢false (sym h))
  beside_past r Exact e f h = absurd (true≢false (sym h))
  beside_past r Unreadable e f h = absurd (true≢false (sym h))

  by_sort : (s : Sort) → (ev p).sort ≡ s → passes_as ev p s ≡ true → IsAnomaly ev p
  unfolding short_passes past_passes
  by_sort Exact e h = inl e
  by_sort (Short r) e h = beside_short r (ev (p + 1)).sort e refl h
  by_sort (Past r) e h = beside_past r (ev (p - 1)).sort e refl h
  by_sort Unreadable e h = absurd (true≢false (sym h))

  only : passes ev p ≡ true → IsAnomaly ev p
  unfolding passes
  only h = by_sort (ev p).sort refl h

  -- ---- An anomaly's place passes.
  sorted_as : (s : Sort) → (ev p).sort ≡ s → passes_as ev p s ≡ true → passes ev p ≡ true
  unfolding passes
  sorted_as s e h = ap (passes_as ev p) e ∙ h

  module _ (short past : End) (n : Neighbours ev short past) (e : p ≡ (nearer_end short past).place) where
    is_short_lem : nearer_end short past ≡ short → passes ev p ≡ true
    unfolding short_passes
    is_short_lem g =
        let at : short.place ≡ p = sym (ap (λ (x : End). x.place) g) ∙ sym e in
        let out : past.place ≡ p + 1 = n.adjacent ∙ ap (λ (x : ℕ). x + 1) at in
        let same : end_at p short.error ≡ short = λ i. end_at (sym at i) short.error in
        let beside : end_at (p + 1) past.error ≡ past = λ i. end_at (sym out i) past.error in
        sorted_as (Short short.error) (ap (λ (x : ℕ). (ev x).sort) (sym at) ∙ n.short_is)
        (ap (short_beside (end_at p short.error)) (ap (λ (x : ℕ). (ev x).sort) (sym out) ∙ n.past_is)
        ∙ picks_it (end_at p short.error) (end_at (p + 1) past.error) p (e ∙ (λ i. (nearer_end (sym same i) (sym beside i)).place)))

    is_past : nearer_end short past ≡ past → passes ev p ≡ true
    unfolding past_passes
    is_past g =
        let at : past.place ≡ p = sym (ap (λ (x : End). x.place) g) ∙ sym e in
        let inside : short.place ≡ p - 1 = omega (arith, n.adjacent, at) in
        let same : end_at p past.error ≡ past = λ i. end_at (sym at i) past.error in
        let beside : end_at (p - 1) short.error ≡ short = λ i. end_at (sym inside i) short.error in
        sorted_as (Past past.error) (ap (λ (x : ℕ). (ev x).sort) (sym at) ∙ n.past_is)
        (ap (past_beside (end_at p past.error)) (ap (λ (x : ℕ). (ev x).sort) (sym inside) ∙ n.short_is)
        ∙ picks_it (end_at (p - 1) short.error) (end_at p past.error) p (e ∙ (λ i. (nearer_end (sym beside i) (sym same i)).place)))

  all : IsAnomaly ev p → passes ev p ≡ true
  all (inl e) = sorted_as Exact e refl
  all (inr (short, past, n, e)) = ⊎_elim (is_short_lem short past n e) (is_past short past n e) (one_of short past)

pub passes_exactly : PassesExactly
passes_exactly ev p = record { only = only ev p; all = all ev p }

-- ---- "at most two trial points"
module _ (ev other : Trials) (p : ℕ) (same : SameTwo ev other p) where
  by_either : (s : Sort) → (ev p).sort ≡ s → passes_as ev p s ≡ passes_as other p s
  unfolding short_passes past_passes
  by_either Exact e = refl
  by_either (Short r) e = ap (λ (t : Trial). short_beside (end_at p r) t.sort) (same.out r e)
  by_either (Past r) e = ap (λ (t : Trial). past_beside (end_at p r) t.sort) (same.inside r e)
  by_either Unreadable e = refl

pub two_points : TwoPoints
unfolding passes
two_points ev other p same = by_either ev other p same (ev p).sort refl ∙ ap (λ (t : Trial). passes_as other p t.sort) same.itself
