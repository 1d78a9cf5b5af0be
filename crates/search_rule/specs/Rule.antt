-- The rule's own history (document 01, "The search"): every trial point in order, and how the search ends. It is written over any trial function, from a place
-- to what is found there, and any proposal, which may look at the round's number, at all points tried so far and at the pair. The search of document 01 is one
-- instance (Search.antt of `search`); its count of points is the length of the history's list of points and nothing else.
use Rattle.std.specs.Prelude.{ℕ, zero, suc, ◌+◌, ◌-◌, ◌/◌, ◌^◌, Bool, true, false, ◌&&◌, List, [], ◌∷◌, ◌++◌, ltb, Option, None, Some, Float}
use Rattle.std.specs.declared.ops.ControlFlow.{ControlFlow}
use Rattle.std.specs.declared.ops.ControlFlow.TheVariants.{Continue, Break}
use Rattle.bits.specs.Choice.{pick}
use Rattle.search_points.specs.declared.figures.Sort.{Sort}
use Rattle.search_points.specs.declared.figures.Sort.TheVariants.{Short, Past, Exact, Unreadable}
use Rattle.search_points.specs.declared.figures.Trial.{Trial}
use Rattle.search_rule.specs.declared.pair.End.{End}
use Rattle.search_rule.specs.declared.pair.Pair.{Pair}
use Rattle.search_rule.specs.declared.pair.Next.{Next}
use Rattle.search_rule.specs.declared.pair.Next.TheVariants as next

-- A tried point.
pub record Point : Type 0 where
  pub place : ℕ
  pub trial : Trial

-- A trial function, and its point at a place; and a proposal, which may be none, made from the round's number, the points tried so far, in order, and the pair.
abbrev pub Trials : Type 0
Trials = ℕ → Trial

abbrev pub point_at : Trials → ℕ → Point
point_at ev place = record { place = place; trial = ev place }

abbrev pub Proposal : Type 0
Proposal = (round : ℕ) (tried : List Point) → Pair → Option ℕ

-- How a search, or a part of one, ends: with a pair, at an exact place, at an unreadable point, or with all outward points short.
pub data Ending : Type 0 where
  between : Pair → Ending
  exact : ℕ → Ending
  unreadable : Ending
  all_short : Ending

-- Each point tried, in order, and then how it ends.
pub data History : Type 0 where
  tries : Point → History → History
  ends : Ending → History

unfoldable pub points_in : History → List Point
points_in (tries p h) = p ∷ points_in h
points_in (ends e) = []

unfoldable pub ending_of : History → Ending
ending_of (tries p h) = ending_of h
ending_of (ends e) = e

-- What follows a part of a search that ended with a pair, and knows all points tried before; and the two parts as one.
abbrev pub Sequel : Type 0
Sequel = (tried : List Point) → Pair → History

unfoldable pub onward : (tried : List Point) → History → Sequel → History
onward tried (tries p h) next = tries p (onward (tried ++ (p ∷ [])) h next)
onward tried (ends (between s)) next = next tried s
onward tried (ends (exact p)) next = ends (exact p)
onward tried (ends unreadable) next = ends unreadable
onward tried (ends all_short) next = ends all_short

-- An end of a pair; and a pair whose last tried point gave t.
abbrev pub end_at : (place : ℕ) (error : Float) → End
end_at place error = record { place = place; error = error }

abbrev pub pair_of : (short past : End) (last : Bool) → Trial → Pair
pair_of short past last t = record { short = short; past = past; last_is_past = last; terms = t.terms }

-- ---- "Outward: places of |H| plus k·2^52, k = 0 to 40, tried in order until one isn't short. .. Exact ends the search. Past gives a pair: the previous
-- point, or place 0 when k = 0, and this one."

-- What the point t at a place gives, after a short end: a short end to go on from, or a stop.
pub data Outward : Type 0 where
  on : End → Outward
  stop : Ending → Outward

abbrev pub outward_by : Sort → (short : End) (place : ℕ) → Trial → Outward
outward_by (Short r) short place t = on (end_at place r)
outward_by (Past r) short place t = stop (between (pair_of short (end_at place r) true t))
outward_by Exact short place t = stop (exact place)
outward_by Unreadable short place t = stop unreadable

abbrev pub outward_step : (short : End) (place : ℕ) → Trial → Outward
outward_step short place t = outward_by t.sort short place t

abbrev pub going_on : Outward → (End → History) → History
going_on (on short) next = next short
going_on (stop e) next = ends e

-- With k points left, from this place on, after a short end.
unfoldable pub outward : Trials → (k place : ℕ) → (short : End) → History
outward ev zero place short = ends all_short
outward ev (suc k) place short = tries (point_at ev place) (going_on (outward_step short place (ev place)) (outward ev k (place + 2 ^ 52)))

-- From the place of |H| on, with the time error of place 0.
abbrev pub outward_part : Trials → (first : ℕ) (error : Float) → History
outward_part ev first error = outward ev 41 first (end_at 0 error)

-- ---- "Inward, in rounds while the two places differ by more than 1"

-- "A tried point replaces the end of its own sort; exact ends the search."
abbrev pub moved_by : Sort → Pair → ℕ → Trial → Ending
moved_by (Short r) s place t = between (pair_of (end_at place r) s.past false t)
moved_by (Past r) s place t = between (pair_of s.short (end_at place r) true t)
moved_by Exact s place t = exact place
moved_by Unreadable s place t = unreadable

abbrev pub moved : Pair → ℕ → Trial → Ending
moved s place t = moved_by t.sort s place t

abbrev pub attempt : Trials → Pair → ℕ → History
attempt ev s place = tries (point_at ev place) (ends (moved s place (ev place)))

-- By how much the two places differ; and whether by more than 1.
abbrev pub gap : Pair → ℕ
gap s = s.past.place - s.short.place

abbrev pub is_wide : Pair → Bool
is_wide s = ltb 1 (gap s)

-- "the halving place, low plus half the difference rounded down"
abbrev pub halfway : Pair → ℕ
halfway s = s.short.place + gap s / 2

-- ".. (if they still differ by more than 1) the halving place"
unfoldable pub halving : Trials → Pair → History
halving ev s = pick (is_wide s) (attempt ev s (halfway s)) (ends (between s))

-- "lies strictly between the two places"
abbrev pub is_inside : Pair → ℕ → Bool
is_inside s place = ltb s.short.place place && ltb place s.past.place

-- "first a proposal, then .. the halving place"; a proposal that does not lie strictly between counts as none.
abbrev pub round_from : Trials → List Point → Pair → (proposed : Option ℕ) → History
round_from ev tried s None = halving ev s
round_from ev tried s (Some p) = pick (is_inside s p) (onward tried (attempt ev s p) (λ _. halving ev)) (halving ev s)

unfoldable pub round : Trials → Proposal → (round : ℕ) → Sequel
round ev pr k tried s = round_from ev tried s (pr k tried s)

-- With `left` rounds left, before round k.
unfoldable pub inward : Trials → Proposal → (left k : ℕ) → Sequel
inward ev pr zero k tried s = ends (between s)
inward ev pr (suc left) k tried s = pick (is_wide s) (onward tried (round ev pr k tried s) (inward ev pr left (k + 1))) (ends (between s))

-- The whole history.
unfoldable pub history : Trials → Proposal → (first : ℕ) (error : Float) → History
history ev pr first error = onward [] (outward_part ev first error) (inward ev pr 63 0)

-- ---- The history as the code keeps it: how it ends, and how many points there were.
abbrev pub next_of : ℕ → Ending → Next
next_of n (between s) = next.Between s n
next_of n (exact p) = next.Exact p n
next_of n unreadable = next.Unreadable n
next_of n all_short = next.AllShort n

unfoldable pub counted : ℕ → History → Next
counted n (tries p h) = counted (n + 1) h
counted n (ends e) = next_of n e

-- What a round begins with: the proposed point, where there is one.
abbrev pub tried_first : Trials → Pair → (proposed : Option ℕ) → History
tried_first ev s None = ends (between s)
tried_first ev s (Some p) = attempt ev s p

abbrev pub step_of : ℕ → Outward → ControlFlow Next End
step_of n (on short) = Continue short
step_of n (stop e) = Break (next_of n e)
