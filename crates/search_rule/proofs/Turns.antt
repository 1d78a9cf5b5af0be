-- What the code's loops cite: a turn of the history at a time. Where a proposal looks at the pair alone, what is left of the history does not depend
-- on the points tried before, nor on the round's number.
use Prim.Native.Nat.{ℕ, zero, suc, ◌+◌, ◌-◌, ◌^◌, ◌≤◌, ◌<◌}
use mathlib.Core.Path.{◌≡◌, refl, ap, sym, ◌∙◌}
use mathlib.Core.Bool.{true, false}
use mathlib.Core.List.{List, [], ◌∷◌, ◌++◌}
use native.Mathlib.Omega.{arith}
use Rattle.std.specs.Prelude.{Option, None, Some, IfSome}
use Rattle.std.specs.declared.ops.ControlFlow.TheVariants.{Continue, Break}
use Rattle.bits.specs.Choice.{pick}
use Rattle.search_rule.specs.declared.pair.End.{End}
use Rattle.search_rule.specs.declared.pair.Pair.{Pair}
use Rattle.search_rule.specs.declared.pair.Next.{Next}
use Rattle.search_rule.specs.declared.pair.Next.TheVariants as next
use Rattle.search_rule.specs.Rule.{Point, Trials, Proposal, between, exact, unreadable, all_short, History, tries, ends, points_in, Sequel, onward, Outward, on}
use Rattle.search_rule.specs.Rule.{stop, outward_step, going_on, outward, attempt, is_wide, halving, is_inside, round_from, round, inward}
use Rattle.search_rule.specs.Rule.{counted, tried_first, step_of}
use Rattle.search_rule.proofs.Counts.{points, used, used_is}
use Rattle.search_rule.proofs.Rounds.{onward_same}

-- A place that is proposed lies strictly between.
abbrev pub Fits : Pair → (proposed : Option ℕ) → Type 0
Fits s proposed = IfSome proposed (λ p. is_inside s p ≡ true)

-- After a part as the code keeps it: the next part, where it ended with a pair.
abbrev pub after : Next → (Pair → History) → Next
after (next.Between s n) f = counted n (f s)
after (next.Exact p n) f = next.Exact p n
after (next.Unreadable n) f = next.Unreadable n
after (next.AllShort n) f = next.AllShort n

-- The next part is f, whatever was tried.
pub counted_onward : (n : ℕ) (tried : List Point) (h : History) (f : Sequel) (g : Pair → History) → ((l : List Point) (s : Pair) → f l s ≡ g s)
    → counted n (onward tried h f) ≡ after (counted n h) g
unfolding counted onward
counted_onward n tried (tries p h) f g e = counted_onward (n + 1) (tried ++ (p ∷ [])) h f g e
counted_onward n tried (ends (between s)) f g e = ap (counted n) (e tried s)
counted_onward n tried (ends (exact p)) f g e = refl
counted_onward n tried (ends unreadable) f g e = refl
counted_onward n tried (ends all_short) f g e = refl

-- So the code goes on from what it has of a part.
pub followed : {x : Next} (n : ℕ) (tried : List Point) (h : History) (f : Sequel) (g : Pair → History) → ((l : List Point) (s : Pair) → f l s ≡ g s)
    → x ≡ counted n h → after x g ≡ counted n (onward tried h f)
followed n tried h f g e p = ap (λ (y : Next). after y g) p ∙ sym (counted_onward n tried h f g e)

-- A pair that a part ended with has that part's points more.
pub between_used : {x : Next} (q : Pair) {m : ℕ} (n : ℕ) (h : History) → x ≡ counted n h → x ≡ next.Between q m → m ≡ n + points h
between_used q n h e g = ap used (sym g ∙ e) ∙ used_is n h

-- An outward step as the code has it: an end, or the next point.
pub stops : (n : ℕ) (o : Outward) (f : End → History) {x : Next} → step_of n o ≡ Break x → x ≡ counted n (going_on o f)
unfolding counted
stops n (on r) f e = absurd (let z : ◌≡◌ {A = ℕ} 0 1 = cc in omega arith)
stops n (stop e) f g = cc

pub goes_on : (n : ℕ) (o : Outward) (f : End → History) {short : End} → step_of n o ≡ Continue short → counted n (going_on o f) ≡ counted n (f short)
goes_on n (on e) f {short} g = let same : e ≡ short = cc in ap (λ (x : End). counted n (f x)) same
goes_on n (stop e) f g = absurd (let z : ◌≡◌ {A = ℕ} 0 1 = cc in omega arith)

-- A place that a `_` arm hands on whole is no pair, so nothing follows it.
pub handed_on : (r : Next) (f : Pair → History) → ((s : Pair) (n : ℕ) → r ≡ next.Between s n → ⊥) → r ≡ after r f
handed_on (next.Between s n) f h = absurd (h s n refl)
handed_on (next.Exact p n) f h = refl
handed_on (next.Unreadable n) f h = refl
handed_on (next.AllShort n) f h = refl

module _ (ev : Trials) where
  -- ---- outward
  pub outward_turn : (k n place : ℕ) (short : End) → 0 < k
      → counted n (outward ev k place short) ≡ counted (n + 1) (going_on (outward_step short place (ev place)) (outward ev (k - 1) (place + 2 ^ 52)))
  unfolding outward counted
  outward_turn zero n place short h = absurd (omega arith)
  outward_turn (suc k) n place short h =
      let e : k ≡ suc k - 1 = omega arith in
      ap (λ (j : ℕ). counted (n + 1) (going_on (outward_step short place (ev place)) (outward ev j (place + 2 ^ 52)))) e

  pub outward_none : (k n place : ℕ) (short : End) → k ≤ 0 → next.AllShort n ≡ counted n (outward ev k place short)
  unfolding outward counted
  outward_none zero n place short h = refl
  outward_none (suc k) n place short h = absurd (omega arith)

  -- ---- inward, where the proposal looks at the pair alone
  module _ (propose : Pair → Option ℕ) where
    abbrev pair_only : Proposal
    pair_only round tried s = propose s

    -- What is left to do from a pair.
    abbrev pub rest : ℕ → Pair → History
    rest left s = inward ev pair_only left 0 [] s

    round_same : (k : ℕ) (tried : List Point) (s : Pair) → round ev pair_only k tried s ≡ round ev pair_only 0 [] s
    unfolding round
    round_same k tried s = by (propose s)
      where
        by : (o : Option ℕ) → round_from ev tried s o ≡ round_from ev [] s o
        by None = refl
        by (Some p) =
            ap (λ (h : History). pick (is_inside s p) h (halving ev s))
            (onward_same tried [] (attempt ev s p) (λ _. halving ev) (λ _. halving ev) (λ _ _. refl))

    pub inward_same : (left k : ℕ) (tried : List Point) (s : Pair) → inward ev pair_only left k tried s ≡ rest left s
    unfolding inward
    inward_same zero k tried s = refl
    inward_same (suc left) k tried s =
        ap (λ (h : History). pick (is_wide s) h (ends (between s)))
        (onward_same tried [] (round ev pair_only k tried s) (inward ev pair_only left (k + 1)) (inward ev pair_only left (0 + 1))
        (λ s' _. inward_same left (k + 1) _ s' ∙ sym (inward_same left (0 + 1) _ s'))
        ∙ ap (λ (h : History). onward [] h (inward ev pair_only left (0 + 1))) (round_same k tried s))

    pub inward_turn : (left n : ℕ) (s : Pair) → 0 < left → is_wide s ≡ true
        → counted n (rest left s) ≡ after (counted n (round ev pair_only 0 [] s)) (rest (left - 1))
    unfolding inward
    inward_turn zero n s h w = absurd (omega arith)
    inward_turn (suc left) n s h w =
        let e : left ≡ suc left - 1 = omega arith in
        rw w (counted_onward n [] (round ev pair_only 0 [] s) (inward ev pair_only left (0 + 1)) (rest left) (inward_same left (0 + 1)))
        ∙ ap (λ (j : ℕ). after (counted n (round ev pair_only 0 [] s)) (rest j)) e

    pub inward_narrow : (left n : ℕ) (s : Pair) → is_wide s ≡ false → next.Between s n ≡ counted n (rest left s)
    unfolding inward counted
    inward_narrow zero n s w = refl
    inward_narrow (suc left) n s w = rw w

    pub inward_none : (left n : ℕ) (s : Pair) → left ≤ 0 → next.Between s n ≡ counted n (rest left s)
    unfolding inward counted
    inward_none zero n s h = refl
    inward_none (suc left) n s h = absurd (omega arith)

  -- ---- a round as the code takes it: a proposed point that fits, and then the halving place
  pub round_turn : (n : ℕ) (s : Pair) (proposed : Option ℕ) → Fits s proposed → {before : Next}
      → before ≡ counted n (tried_first ev s proposed) → after before (halving ev) ≡ counted n (round_from ev [] s proposed)
  unfolding counted
  round_turn n s None f e = ap (λ (y : Next). after y (halving ev)) e
  round_turn n s (Some p) f e = rw f (followed n [] (attempt ev s p) (λ _. halving ev) (halving ev) (λ _ _. refl) e)

  pub first_points : (s : Pair) (proposed : Option ℕ) → points (tried_first ev s proposed) ≤ 1
  unfolding points_in
  first_points s None = omega arith
  first_points s (Some p) = omega arith
