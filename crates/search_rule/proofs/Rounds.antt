-- A round at least halves the gap between the two places, whatever is tried and whatever proposes: so the gap alone bounds the rounds, to 52 where the
-- first outward point is short and to 63 where it isn't, and the 63 of document 01 are no rule of their own.
use Prim.Native.Nat.{ℕ, zero, suc, ◌+◌, ◌-◌, ◌*◌, ◌^◌, ◌≤◌, ◌<◌}
use mathlib.Core.Path.{◌≡◌, refl, ap, subst}
use mathlib.Core.Bool.{true}
use mathlib.Core.List.{List, [], ◌∷◌, ◌++◌, append_assoc, append-nil}
use mathlib.Core.Logic.{◌⊎◌, inl, inr, ⊎_elim}
use native.Mathlib.Nat.{pow-suc}
use native.Mathlib.Omega.{arith}
use lib.Dec.{ltb}
use lib.Pow.{pow_pos}
use lib.Ieee.{Float}
use borrow.Author.Tests.{ltb-true, ltb-false, le-ltb}
use Rattle.bits.specs.Choice.{pick}
use Rattle.bits.proofs.RunLaws.{both}
use Rattle.search_points.specs.declared.figures.Sort.{Sort}
use Rattle.search_points.specs.declared.figures.Sort.TheVariants.{Short, Past, Exact, Unreadable}
use Rattle.search_rule.specs.declared.pair.End.{End}
use Rattle.search_rule.specs.declared.pair.Pair.{Pair}
use Rattle.search_rule.specs.Rule.{Point, Trials, Proposal, Ending, between, exact, unreadable, all_short, History, tries, ends, points_in, ending_of}
use Rattle.search_rule.specs.Rule.{Sequel, onward, end_at, moved_by, moved, attempt, gap, is_wide, halfway, halving, is_inside, round, inward, history}
use Rattle.search_rule.specs.Rule.{outward, outward_part, outward_by, going_on}
use Rattle.search_rule.specs.RulePromise.{IsShort, history_in}
use Rattle.search_rule.proofs.Counts.{points, onward_points, outward_points, inward_points, pick_holds, round_holds}

-- An end at which K holds and whose pair, where it is one, is at most g wide.
abbrev pub NoWider : (Ending → Type 0) → ℕ → Ending → Type 0
NoWider K g (between s) = K (between s) × (gap s ≤ g)
NoWider K g (exact p) = K (exact p)
NoWider K g unreadable = K unreadable
NoWider K g all_short = K all_short

-- ---- Choices, with what their tests say.
pub inside_is : (s : Pair) (p : ℕ) → is_inside s p ≡ true → (s.short.place < p) × (p < s.past.place)
inside_is s p e =
    let t = both (ltb s.short.place p) (ltb p s.past.place) e in
    (ltb-true s.short.place p t.0, ltb-true p s.past.place t.1)

-- ---- What every point that is tried between the two ends keeps, a round and the rounds keep; and the gap shrinks.
module _ (K : Ending → Type 0) where
  pub onward_no_wider : (g g' : ℕ) (tried : List Point) (h : History) (f : Sequel) → NoWider K g (ending_of h)
      → ((l : List Point) (s : Pair) → K (between s) → gap s ≤ g → NoWider K g' (ending_of (f l s))) → NoWider K g' (ending_of (onward tried h f))
  unfolding ending_of onward
  onward_no_wider g g' tried (tries p h) f x next = onward_no_wider g g' (tried ++ (p ∷ [])) h f x next
  onward_no_wider g g' tried (ends (between s)) f x next = next tried s x.0 x.1
  onward_no_wider g g' tried (ends (exact p)) f x next = x
  onward_no_wider g g' tried (ends unreadable) f x next = x
  onward_no_wider g g' tried (ends all_short) f x next = x

  module _ (ev : Trials) (keeps : (s : Pair) (p : ℕ) → K (between s) → s.short.place < p → p < s.past.place → K (moved s p (ev p))) where
    moved_no_wider : (g : ℕ) (s : Pair) (p : ℕ) → K (between s) → s.short.place < p → p < s.past.place → p - s.short.place ≤ g → s.past.place - p ≤ g
        → NoWider K g (moved s p (ev p))
    moved_no_wider g s p k lo hi l r = go (ev p).sort (keeps s p k lo hi)
      where
        go : (v : Sort) → K (moved_by v s p (ev p)) → NoWider K g (moved_by v s p (ev p))
        go (Short x) y = (y, r)
        go (Past x) y = (y, l)
        go Exact y = y
        go Unreadable y = y

    halving_no_wider : (g : ℕ) (s : Pair) → 1 ≤ g → K (between s) → gap s ≤ 2 * g → NoWider K g (ending_of (halving ev s))
    unfolding ending_of halving
    halving_no_wider g s g1 k w =
        pick_holds (λ (h : History). NoWider K g (ending_of h)) (is_wide s)
        (λ e. let o = ltb-true _ (gap s) e in moved_no_wider g s (halfway s) k (omega arith) (omega arith) (omega arith) (omega arith))
        (λ e. let o = ltb-false _ (gap s) e in (k, omega arith))

    module _ (pr : Proposal) where
      pub round_no_wider : (g k : ℕ) (tried : List Point) (s : Pair) → 1 ≤ g → K (between s) → gap s ≤ 2 * g → NoWider K g (ending_of (round ev pr k tried s))
      unfolding ending_of round
      round_no_wider g n tried s g1 k w =
          round_holds (λ (h : History). NoWider K g (ending_of h)) ev tried s (pr n tried s)
          (λ p e.
          let i = inside_is s p e in
          onward_no_wider (2 * g) g tried (attempt ev s p) (λ _. halving ev)
          (moved_no_wider (2 * g) s p k i.0 i.1 (omega arith) (omega arith))
          (λ _ s' k' w'. halving_no_wider g s' g1 k' w'))
          (halving_no_wider g s g1 k w)

      -- So many rounds close a pair of 2 ^ left places, and bring one that is w wider to 1 + w.
      pub inward_no_wider : (left k : ℕ) (tried : List Point) (s : Pair) (w : ℕ) → K (between s) → gap s ≤ 2 ^ left + w
          → NoWider K (1 + w) (ending_of (inward ev pr left k tried s))
      unfolding ending_of inward
      inward_no_wider zero n tried s w k l = (k, l)
      inward_no_wider (suc left) n tried s w k l =
          pick_holds (λ (h : History). NoWider K (1 + w) (ending_of h)) (is_wide s)
          (λ e.
          onward_no_wider (2 ^ left + w) (1 + w) tried (round ev pr n tried s) (inward ev pr left (n + 1))
          (round_no_wider (2 ^ left + w) n tried s (omega (arith, pow_pos left)) k (omega (arith, pow-suc 2 left)))
          (λ t s' k' w'. inward_no_wider left (n + 1) t s' w k' w'))
          (λ e. let o = ltb-false _ (gap s) e in (k, omega arith))

-- ---- So many rounds are enough.

-- No more than the width is asked of an end.
abbrev Any : Ending → Type 0
Any e = Unit {0}

-- What follows a part hangs on nothing but the points tried by its end and the pair that it ends with.
pub onward_same : (tried tried' : List Point) (h : History) (f f' : Sequel)
    → ((s : Pair) → ending_of h ≡ between s → f (tried ++ points_in h) s ≡ f' (tried' ++ points_in h) s) → onward tried h f ≡ onward tried' h f'
unfolding ending_of points_in onward
onward_same tried tried' (tries p h) f f' e =
    ap (tries p) (onward_same (tried ++ (p ∷ [])) (tried' ++ (p ∷ [])) h f f' (λ s x. simp append_assoc (e s x)))
onward_same tried tried' (ends (between s)) f f' e = simp append-nil at (e s refl)
onward_same tried tried' (ends (exact p)) f f' e = refl
onward_same tried tried' (ends unreadable) f f' e = refl
onward_same tried tried' (ends all_short) f f' e = refl

module _ (ev : Trials) (pr : Proposal) where
  -- Where the two places differ by at most 1, there is no round.
  no_round : (left k : ℕ) (tried : List Point) (s : Pair) → gap s ≤ 1 → inward ev pr left k tried s ≡ ends (between s)
  unfolding inward
  no_round zero k tried s w = refl
  no_round (suc left) k tried s w = rw (le-ltb 1 (gap s) w)

  -- A pair of at most 2 ^ g places has at most g rounds.
  pub rounds_enough : (g more k : ℕ) (tried : List Point) (s : Pair) → gap s ≤ 2 ^ g → inward ev pr (g + more) k tried s ≡ inward ev pr g k tried s
  unfolding inward
  rounds_enough zero more k tried s w = no_round (0 + more) k tried s w
  rounds_enough (suc g) more k tried s w =
      let e : suc g + more ≡ suc (g + more) = omega arith in
      rw e
      (ap (λ (h : History). pick (is_wide s) h (ends (between s)))
      (onward_same tried tried (round ev pr k tried s) (inward ev pr (g + more) (k + 1)) (inward ev pr g (k + 1))
      (λ s' x. rounds_enough g more (k + 1) (tried ++ points_in (round ev pr k tried s)) s'
      (subst (NoWider Any (2 ^ g)) x (round_no_wider Any ev (λ _ _ _ _ _. tt) pr (2 ^ g) k tried s (pow_pos g) tt (omega (arith, pow-suc 2 g)))).1)))

-- ---- In the history.
pub is_short_lem : (v : Sort) → IsShort v ⊎ (IsShort v → ⊥)
is_short_lem (Short r) = inl tt
is_short_lem (Past r) = inr (λ x. x)
is_short_lem Exact = inr (λ x. x)
is_short_lem Unreadable = inr (λ x. x)

module _ (ev : Trials) where
  module _ (g : ℕ) where
    step_gap : (v : Sort) (short : End) (place : ℕ) (next : End → History) → ((r : Float) → v ≡ Past r → place - short.place ≤ g)
        → ((r : Float) → NoWider Any g (ending_of (next (end_at place r)))) → NoWider Any g (ending_of (going_on (outward_by v short place (ev place)) next))
    unfolding ending_of
    step_gap (Short r) short place next w h = h r
    step_gap (Past r) short place next w h = (tt, w r refl)
    step_gap Exact short place next w h = tt
    step_gap Unreadable short place next w h = tt

    -- The pair that the outward part ends with: two outward points, 2 ^ 52 places apart, or the first of them and the short place before it.
    outward_gap : (n place : ℕ) (short : End) → 2 ^ 52 ≤ g → place - short.place ≤ g → NoWider Any g (ending_of (outward ev n place short))
    unfolding ending_of outward
    outward_gap zero place short l w = tt
    outward_gap (suc n) place short l w =
        step_gap (ev place).sort short place (outward ev n (place + 2 ^ 52)) (λ _ _. w) (λ r. outward_gap n (place + 2 ^ 52) (end_at place r) l (omega arith))

  -- An outward point that isn't short is the last one.
  one_point : (n place : ℕ) (short : End) → (IsShort (ev place).sort → ⊥) → points (outward ev (suc n) place short) ≤ 1
  unfolding outward points_in
  one_point n place short h = omega (arith, go (ev place).sort h)
    where
      go : (v : Sort) → (IsShort v → ⊥) → points (going_on (outward_by v short place (ev place)) (outward ev n (place + 2 ^ 52))) ≤ 0
      go (Short r) x = absurd (x tt)
      go (Past r) x = omega arith
      go Exact x = omega arith
      go Unreadable x = omega arith

  module _ (first : ℕ) (error : Float) where
    -- From k = 0 the gap is at most 2 ^ 63, from k >= 1 at most 2 ^ 52.
    pub gap_63 : first < 2 ^ 63 → NoWider Any (2 ^ 63) (ending_of (outward_part ev first error))
    gap_63 h = outward_gap (2 ^ 63) 41 first (end_at 0 error) (omega arith) (omega arith)

    pub gap_52 : IsShort (ev first).sort → NoWider Any (2 ^ 52) (ending_of (outward_part ev first error))
    unfolding ending_of outward
    gap_52 h =
        step_gap (2 ^ 52) (ev first).sort (end_at 0 error) first (outward ev 40 (first + 2 ^ 52)) (λ r e. absurd (subst IsShort e h))
        (λ r. outward_gap (2 ^ 52) 40 (first + 2 ^ 52) (end_at first r) (omega arith) (omega arith))

    module _ (pr : Proposal) where
      history_in_same : (g more : ℕ) → NoWider Any (2 ^ g) (ending_of (outward_part ev first error))
          → history_in (g + more) ev pr first error ≡ history_in g ev pr first error
      history_in_same g more h =
          let out = outward_part ev first error in
          onward_same [] [] out (inward ev pr (g + more) 0) (inward ev pr g 0)
          (λ s x. rounds_enough ev pr g more 0 (points_in out) s (subst (NoWider Any (2 ^ g)) x h).1)

      -- "At most 63 rounds" is no rule of its own: with any more of them the history is the same.
      pub rounds_63 : first < 2 ^ 63 → (more : ℕ) → history_in (63 + more) ev pr first error ≡ history ev pr first error
      unfolding history
      rounds_63 h more = history_in_same 63 more (gap_63 h)

      -- After a short first point 52 rounds are enough.
      pub rounds_52 : IsShort (ev first).sort → history ev pr first error ≡ history_in 52 ev pr first error
      unfolding history
      rounds_52 h = history_in_same 52 11 (gap_52 h)

      rounds_points : (rounds : ℕ) → points (history_in rounds ev pr first error) ≤ points (outward_part ev first error) + 2 * rounds
      rounds_points rounds = onward_points (2 * rounds) [] (outward_part ev first error) (inward ev pr rounds 0) (inward_points ev pr rounds 0)

      -- So there are at most 41 + 2 * 52 points after a short first point, and else at most 1 + 2 * 63.
      pub points_145 : IsShort (ev first).sort → points (history ev pr first error) ≤ 145
      points_145 h = rw (rounds_52 h) (omega (arith, rounds_points 52, outward_points ev 41 first (end_at 0 error)))

      pub points_127 : (IsShort (ev first).sort → ⊥) → points (history ev pr first error) ≤ 127
      unfolding history
      points_127 h = omega (arith, rounds_points 63, one_point 40 first (end_at 0 error) h)

      pub points_sharp : points (history ev pr first error) ≤ 145
      points_sharp = ⊎_elim points_145 (λ h. omega (arith, points_127 h)) (is_short_lem (ev first).sort)
