-- An anomaly is found, whatever formula proposes the inner points: every pair of the search has a short end below a past end, and the rounds bring the two
-- together.
use Prim.Native.Nat.{ℕ, zero, suc, ◌+◌, ◌^◌, ◌≤◌, ◌<◌}
use mathlib.Core.Path.{◌≡◌, refl, ap, sym, ◌∙◌, subst}
use mathlib.Core.List.{[]}
use mathlib.Core.Logic.{◌⊎◌, inl, inr, ⊎_elim}
use native.Mathlib.Nat.{le_refl}
use native.Mathlib.Decide.{dec_le}
use native.Mathlib.Omega.{arith}
use lib.Ieee.{Float}
use Rattle.search_points.specs.declared.figures.Sort.{Sort}
use Rattle.search_points.specs.declared.figures.Sort.TheVariants.{Short, Past, Exact, Unreadable}
use Rattle.search_points.specs.declared.figures.Trial.{Trial}
use Rattle.search_rule.specs.declared.pair.End.{End}
use Rattle.search_rule.specs.declared.pair.Pair.{Pair}
use Rattle.search_rule.specs.Rule.{Trials, Proposal, Ending, between, exact, unreadable, all_short, History, ending_of, end_at, outward_by, going_on}
use Rattle.search_rule.specs.Rule.{outward, outward_part, moved_by, moved, inward, history}
use Rattle.search_rule.specs.RulePromise.{IsShort, out_point, Sorts, FirstNotShort, ReadableUpTo, IsShortEnd, IsPastEnd, IsFound, Finds, IsAnswer, IsAnomaly, Answers}
use Rattle.search_rule.specs.Nearer.{nearer_end}
use Rattle.search_rule.proofs.Rounds.{NoWider, onward_no_wider, inward_no_wider}

-- A pair that holds: its ends are what it says, in order, and not beyond the first outward point that isn't short.
pub record Held (ev : Trials) (top : ℕ) (s : Pair) : Type 0 where
  pub short_is : IsShortEnd ev s.short
  pub past_is : IsPastEnd ev s.past
  pub order : s.short.place < s.past.place
  pub inside : s.past.place ≤ top

-- What an end says of the places up to that point.
abbrev pub Reached : Trials → ℕ → Ending → Type 0
Reached ev top (between s) = Held ev top s
Reached ev top (exact p) = ((ev p).sort ≡ Exact) × (p ≤ top)
Reached ev top unreadable = (p : ℕ) × ((ev p).sort ≡ Unreadable) × (p ≤ top)
Reached ev top all_short = ⊥

-- A point that is tried between the ends of a pair that holds leaves such a pair, or ends the search.
moved_reached : (ev : Trials) (top : ℕ) (s : Pair) (p : ℕ) → Held ev top s → s.short.place < p → p < s.past.place → Reached ev top (moved s p (ev p))
moved_reached ev top s p h lo hi = go (ev p).sort refl
  where
    go : (v : Sort) → (ev p).sort ≡ v → Reached ev top (moved_by v s p (ev p))
    go (Short r) e = record { short_is = e; past_is = h.past_is; order = hi; inside = h.inside }
    go (Past r) e = record { short_is = h.short_is; past_is = e; order = lo; inside = omega arith }
    go Exact e = (e, omega arith)
    go Unreadable e = (p, e, omega arith)

-- ---- Outward.
pub out_point-zero : (place : ℕ) → out_point place 0 ≡ place
out_point-zero place = omega arith

pub out_point-suc : (place k : ℕ) → out_point place (suc k) ≡ out_point (place + 2 ^ 52) k
out_point-suc place k = omega arith

-- A short outward point goes on from its own error.
pub on_short : (v : Sort) (short : End) (place : ℕ) (t : Trial) (next : End → History) → IsShort v
    → (r : Float) × (v ≡ Short r) × (going_on (outward_by v short place t) next ≡ next (end_at place r))
on_short (Short r) short place t next h = (r, refl, refl)
on_short (Past r) short place t next h = absurd h
on_short Exact short place t next h = absurd h
on_short Unreadable short place t next h = absurd h

module _ (ev : Trials) where
  -- After a short point, at or before it, an outward point that isn't short is a past one above it, or ends the search.
  stop_reached : (short : End) (place : ℕ) (next : End → History) → IsShortEnd ev short → short.place ≤ place → (IsShort (ev place).sort → ⊥)
      → Reached ev place (ending_of (going_on (outward_by (ev place).sort short place (ev place)) next))
  unfolding ending_of
  stop_reached short place next hs l ns = go (ev place).sort refl
    where
      apart : short.place ≡ place → ⊥
      apart e = ns (subst IsShort (sym hs ∙ ap (λ (n : ℕ). (ev n).sort) e) tt)

      below : short.place < place
      below = omega (arith, apart)

      go : (v : Sort) → (ev place).sort ≡ v → Reached ev place (ending_of (going_on (outward_by v short place (ev place)) next))
      go (Short r) e = absurd (ns (subst IsShort (sym e) tt))
      go (Past r) e = record { short_is = hs; past_is = e; order = below; inside = le_refl place }
      go Exact e = (e, omega arith)
      go Unreadable e = (place, e, omega arith)

  outward_reached : (k n place : ℕ) (short : End) → IsShortEnd ev short → short.place ≤ place → FirstNotShort ev place n k
      → Reached ev (out_point place k) (ending_of (outward ev n place short))
  unfolding ending_of outward
  outward_reached k zero place short hs l f = absurd (omega arith)
  outward_reached zero (suc n) place short hs l f =
      let e = out_point-zero place in
      rw e (stop_reached short place (outward ev n (place + 2 ^ 52)) hs l (rw e at f.not_short))
  outward_reached (suc k) (suc n) place short hs l f =
      let o = on_short (ev place).sort short place (ev place) (outward ev n (place + 2 ^ 52)) (rw (out_point-zero place) at (f.shorts 0 (omega arith))) in
      let rest : FirstNotShort ev (place + 2 ^ 52) n k =
      record {
        among = omega (arith, f.among);
        shorts = λ i li. rw (← out_point-suc place i) (f.shorts (suc i) (omega arith));
        not_short = rw (out_point-suc place k) at f.not_short;
      } in
      rw (o.2, out_point-suc place k) (outward_reached k n (place + 2 ^ 52) (end_at place o.0) o.1 (omega arith) rest)

-- ---- The whole search.
module _ (ev : Trials) (pr : Proposal) (first : ℕ) (error : Float) (sorts : Sorts ev error) where
  -- A pair that holds is narrower than 2 ^ 63 places, since no place from there on is readable.
  narrow : (top : ℕ) (e : Ending) → Reached ev top e → NoWider (Reached ev top) (2 ^ 63) e
  narrow top (between s) x =
      elim (dec_le (2 ^ 63) s.past.place) [
        | yes l ↦ absurd (let z : ◌≡◌ {A = ℕ} 0 1 = cc (sorts.top_unreadable s.past.place l, x.past_is) in omega arith)
        | no l ↦ (x, omega arith)
      ]
  narrow top (exact p) x = x
  narrow top unreadable x = x
  narrow top all_short x = x

  -- Where some outward point isn't short, the search ends with neighbours, at an exact point or at an unreadable one, none of them beyond that point.
  pub history_reached : (k : ℕ) → FirstNotShort ev first 41 k → NoWider (Reached ev (out_point first k)) 1 (ending_of (history ev pr first error))
  unfolding history
  history_reached k f =
      let top = out_point first k in
      onward_no_wider (Reached ev top) (2 ^ 63) 1 [] (outward_part ev first error) (inward ev pr 63 0)
      (narrow top (ending_of (outward_part ev first error)) (outward_reached ev k 41 first (end_at 0 error) sorts.zero_short (omega arith) f))
      (λ tried s h w. inward_no_wider (Reached ev top) ev (moved_reached ev top) pr 63 0 tried s 0 h w)

-- Neighbours and an exact point are what is found; else a point up to that one is unreadable.
pub found : (ev : Trials) (top : ℕ) (e : Ending) → NoWider (Reached ev top) 1 e → IsFound ev e ⊎ ((e ≡ unreadable) × (ReadableUpTo ev top → ⊥))
found ev top (between s) x =
    let h = x.0 in
    inl (record { short_is = h.short_is; past_is = h.past_is; adjacent = omega (arith, h.order, x.1) })
found ev top (exact p) x = inl x.0
found ev top unreadable x = inr (refl, λ r. r x.0 x.2 x.1)
found ev top all_short x = absurd x

-- Demand 3, of the pair.
pub finds : Finds
finds ev pr first error sorts f =
    ⊎_elim (λ x. x) (λ u. absurd (u.1 f.readable))
    (found ev (out_point first f.k) (ending_of (history ev pr first error)) (history_reached ev pr first error sorts f.k f.first_not_short))

-- What is found answers an anomaly; so demand 3, as T-01 has it.
pub found_answers : (ev : Trials) (e : Ending) → IsFound ev e → (p : ℕ) × IsAnswer e p × IsAnomaly ev p
found_answers ev (between s) x = ((nearer_end s.short s.past).place, refl, inr (s.short, s.past, x, refl))
found_answers ev (exact p) x = (p, refl, inl x)
found_answers ev unreadable x = absurd x
found_answers ev all_short x = absurd x

pub answers : Answers
answers ev pr first error sorts f = found_answers ev (ending_of (history ev pr first error)) (finds ev pr first error sorts f)
