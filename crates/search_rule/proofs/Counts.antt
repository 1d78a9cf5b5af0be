-- How many points a history has, for any trial function and any proposal: one for a halving, two a round, one for each outward place.
use Prim.Native.Nat.{ℕ, zero, suc, ◌+◌, ◌*◌, ◌^◌, ◌≤◌}
use mathlib.Core.Path.{◌≡◌, refl, ap, ◌∙◌}
use mathlib.Core.Bool.{Bool, true, false}
use mathlib.Core.List.{List, [], ◌∷◌, ◌++◌}
use native.Mathlib.Omega.{arith}
use lib.ListN.{length}
use lib.Ieee.{Float}
use Rattle.std.specs.Prelude.{Option, None, Some}
use Rattle.bits.specs.Choice.{pick}
use Rattle.search_rule.specs.declared.pair.End.{End}
use Rattle.search_rule.specs.declared.pair.Pair.{Pair}
use Rattle.search_rule.specs.declared.pair.Next.{Next}
use Rattle.search_rule.specs.declared.pair.Next.TheVariants as next
use Rattle.search_rule.specs.Rule.{Point, Trials, Proposal, Ending, between, exact, unreadable, all_short, History, tries, ends, points_in, ending_of}
use Rattle.search_rule.specs.Rule.{Sequel, onward, end_at, Outward, on, stop, outward_step, going_on, outward, outward_part, attempt, is_wide}
use Rattle.search_rule.specs.Rule.{halving, is_inside, round_from, round, inward, history, next_of, counted}

abbrev pub points : History → ℕ
points h = length (points_in h)

-- ---- The count that the code keeps is the number of the history's points.
pub counted_is : (n : ℕ) (h : History) → counted n h ≡ next_of (n + points h) (ending_of h)
unfolding counted points_in ending_of
counted_is n (tries p h) = counted_is (n + 1) h ∙ ap (λ (k : ℕ). next_of k (ending_of h)) (omega arith)
counted_is n (ends e) = ap (λ (k : ℕ). next_of k e) (omega arith)

abbrev pub used : Next → ℕ
used (next.Between s n) = n
used (next.Exact p n) = n
used (next.Unreadable n) = n
used (next.AllShort n) = n

used_next : (n : ℕ) (e : Ending) → used (next_of n e) ≡ n
used_next n (between s) = refl
used_next n (exact p) = refl
used_next n unreadable = refl
used_next n all_short = refl

pub used_is : (n : ℕ) (h : History) → used (counted n h) ≡ n + points h
used_is n h = ap used (counted_is n h) ∙ used_next (n + points h) (ending_of h)

-- ---- The parts of a history.
-- A choice, with what its test says.
pub pick_holds : (P : History → Type 0) (b : Bool) {x y : History} → (b ≡ true → P x) → (b ≡ false → P y) → P (pick b x y)
pick_holds P true h g = h refl
pick_holds P false h g = g refl

-- A round, by what it begins with: a proposed point strictly between, or the halving place.
pub round_holds : (P : History → Type 0) (ev : Trials) (tried : List Point) (s : Pair) (proposed : Option ℕ)
    → ((p : ℕ) → is_inside s p ≡ true → P (onward tried (attempt ev s p) (λ _. halving ev))) → P (halving ev s) → P (round_from ev tried s proposed)
round_holds P ev tried s None f g = g
round_holds P ev tried s (Some p) f g = pick_holds P (is_inside s p) (f p) (λ _. g)

pub onward_points : (k : ℕ) (tried : List Point) (h : History) (f : Sequel) → ((l : List Point) (s : Pair) → points (f l s) ≤ k)
    → points (onward tried h f) ≤ points h + k
unfolding points_in onward
onward_points k tried (tries p h) f g = omega (arith, onward_points k (tried ++ (p ∷ [])) h f g)
onward_points k tried (ends (between s)) f g = omega (arith, g tried s)
onward_points k tried (ends (exact p)) f g = omega arith
onward_points k tried (ends unreadable) f g = omega arith
onward_points k tried (ends all_short) f g = omega arith

module _ (ev : Trials) where
  pub halving_points : (s : Pair) → points (halving ev s) ≤ 1
  unfolding points_in halving
  halving_points s = pick_holds (λ (h : History). points h ≤ 1) (is_wide s) (λ _. omega arith) (λ _. omega arith)

  on_points : (o : Outward) (f : End → History) (k : ℕ) → ((short : End) → points (f short) ≤ k) → points (going_on o f) ≤ k
  unfolding points_in
  on_points (on short) f k h = h short
  on_points (stop e) f k h = omega arith

  pub outward_points : (k place : ℕ) (short : End) → points (outward ev k place short) ≤ k
  unfolding points_in outward
  outward_points zero place short = omega arith
  outward_points (suc k) place short =
      omega (arith, on_points (outward_step short place (ev place)) (outward ev k (place + 2 ^ 52)) k (outward_points k (place + 2 ^ 52)))

  module _ (pr : Proposal) where
    pub round_points : (k : ℕ) (tried : List Point) (s : Pair) → points (round ev pr k tried s) ≤ 2
    unfolding points_in round
    round_points k tried s =
        round_holds (λ (h : History). points h ≤ 2) ev tried s (pr k tried s)
        (λ p _. omega (arith, onward_points 1 tried (attempt ev s p) (λ _. halving ev) (λ _ s'. halving_points s')))
        (omega (arith, halving_points s))

    pub inward_points : (left k : ℕ) (tried : List Point) (s : Pair) → points (inward ev pr left k tried s) ≤ 2 * left
    unfolding points_in inward
    inward_points zero k tried s = omega arith
    inward_points (suc left) k tried s =
        let f = inward ev pr left (k + 1) in
        pick_holds (λ (h : History). points h ≤ 2 * suc left) (is_wide s)
        (λ _. omega (arith, onward_points (2 * left) tried (round ev pr k tried s) f (inward_points left (k + 1)), round_points k tried s))
        (λ _. omega arith)

    -- "At most 63 rounds, so 41 + 126 = 167 points"
    pub history_points : (first : ℕ) (error : Float) → points (history ev pr first error) ≤ 167
    unfolding history
    history_points first error =
        omega (arith, onward_points 126 [] (outward_part ev first error) (inward ev pr 63 0) (inward_points 63 0), outward_points 41 first (end_at 0 error))
