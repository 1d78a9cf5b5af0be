-- Whether a place is an anomaly's, told without a search (document 02, T-06): the anomaly "is exact, or is the answer T-01 picks from its adjacent pair (the
-- next place out if it is short, the next in if past)". It is written over any trial function, as the search's rule is.
use Rattle.std.specs.Prelude.{ℕ, ◌+◌, ◌-◌, ◌≡◌, Bool, true, false, eqb, Float}
use Rattle.search_points.specs.declared.figures.Sort.{Sort}
use Rattle.search_points.specs.declared.figures.Sort.TheVariants.{Short, Past, Exact, Unreadable}
use Rattle.search_rule.specs.declared.pair.End.{End}
use Rattle.search_rule.specs.Rule.{Trials, end_at}
use Rattle.search_rule.specs.Nearer.{nearer_end}
use Rattle.search_rule.specs.RulePromise.{IsAnomaly}

-- Whether "the answer T-01 picks" of two ends stands at this place.
unfoldable pub picks : (short past : End) (place : ℕ) → Bool
picks short past place = eqb (nearer_end short past).place place

-- A short end passes by its neighbour one place out, which has to be past; a past end by its neighbour one place in, which has to be short. A neighbour that is
-- of the same sort, exact or unreadable makes no pair.
abbrev pub short_beside : (short : End) → Sort → Bool
short_beside short (Past r) = picks short (end_at (short.place + 1) r) short.place
short_beside short (Short r) = false
short_beside short Exact = false
short_beside short Unreadable = false

abbrev pub past_beside : (past : End) → Sort → Bool
past_beside past (Short r) = picks (end_at (past.place - 1) r) past past.place
past_beside past (Past r) = false
past_beside past Exact = false
past_beside past Unreadable = false

unfoldable pub short_passes : Trials → End → Bool
short_passes ev short = short_beside short (ev (short.place + 1)).sort

unfoldable pub past_passes : Trials → End → Bool
past_passes ev past = past_beside past (ev (past.place - 1)).sort

-- By the sort of the place itself.
abbrev pub passes_as : Trials → (place : ℕ) → Sort → Bool
passes_as ev p Exact = true
passes_as ev p (Short r) = short_passes ev (end_at p r)
passes_as ev p (Past r) = past_passes ev (end_at p r)
passes_as ev p Unreadable = false

unfoldable pub passes : Trials → (place : ℕ) → Bool
passes ev p = passes_as ev p (ev p).sort

-- ---- What it promises, for any trial function.

-- A place passes exactly where it is an anomaly's in demand 3's words since T-01: "a zero error, or one end of an adjacent short and past pair, chosen so".
pub record PassesSo (ev : Trials) (p : ℕ) : Type 0 where
  pub only : passes ev p ≡ true → IsAnomaly ev p
  pub all : IsAnomaly ev p → passes ev p ≡ true

abbrev pub PassesExactly : Type 0
PassesExactly = (ev : Trials) (p : ℕ) → PassesSo ev p

-- "without rerunning the search": the place and one neighbour of it are all that is looked at. Another trial function with the same two points says the same.
pub record SameTwo (ev other : Trials) (p : ℕ) : Type 0 where
  pub itself : ev p ≡ other p
  pub out : (r : Float) → (ev p).sort ≡ Short r → ev (p + 1) ≡ other (p + 1)
  pub inside : (r : Float) → (ev p).sort ≡ Past r → ev (p - 1) ≡ other (p - 1)

abbrev pub TwoPoints : Type 0
TwoPoints = (ev other : Trials) (p : ℕ) → SameTwo ev other p → passes ev p ≡ passes other p
