-- What the rule promises (document 01, demand 3 and "What holds the contracts honest"), for any trial function and any proposal.
use Rattle.std.specs.Prelude.{ℕ, ◌+◌, ◌*◌, ◌^◌, ◌<◌, ◌≤◌, ◌≡◌, List, [], ◌∷◌, ◌++◌, ◌⊎◌, Float}
use Rattle.search_points.specs.declared.figures.Sort.{Sort}
use Rattle.search_points.specs.declared.figures.Sort.TheVariants.{Short, Past, Exact, Unreadable}
use Rattle.search_rule.specs.declared.pair.End.{End}
use Rattle.search_rule.specs.Rule.{Point, Trials, Proposal, Ending, between, exact, unreadable, all_short, History, ending_of, onward, outward_part}
use Rattle.search_rule.specs.Rule.{inward, history}
use Rattle.search_rule.specs.Nearer.{nearer_end}

-- What the rule asks of a trial function: place 0 is short, with the error given, and no place from 2 ^ 63 on is readable.
pub record Sorts (ev : Trials) (error : Float) : Type 0 where
  pub zero_short : (ev 0).sort ≡ Short error
  pub top_unreadable : (p : ℕ) → 2 ^ 63 ≤ p → (ev p).sort ≡ Unreadable

-- ---- The outward points.
abbrev pub IsShort : Sort → Type 0
IsShort (Short r) = Unit {0}
IsShort (Past r) = ⊥
IsShort Exact = ⊥
IsShort Unreadable = ⊥

-- The k-th of them.
abbrev pub out_point : ℕ → ℕ → ℕ
out_point first k = first + k * 2 ^ 52

-- The first k of them are short; and all 41.
abbrev pub ShortBefore : Trials → (first k : ℕ) → Type 0
ShortBefore ev first k = (i : ℕ) → i < k → IsShort (ev (out_point first i)).sort

abbrev pub AllOutwardShort : Trials → (first : ℕ) → Type 0
AllOutwardShort ev first = ShortBefore ev first 41

-- The k-th is the first of n that isn't short.
pub record FirstNotShort (ev : Trials) (first n k : ℕ) : Type 0 where
  pub among : k < n
  pub shorts : ShortBefore ev first k
  pub not_short : IsShort (ev (out_point first k)).sort → ⊥

-- ---- Demand 3: "If some of the 41 outward trial points isn't short of the time, and no double from zero to the first such point is unreadable, an anomaly is
-- found. .. All but the number's exact size must hold whatever formula proposes the inner points, one a round." What is found reads, since T-01: "a zero error,
-- or one end of an adjacent short and past pair, chosen so."

-- No place up to p is unreadable.
abbrev pub ReadableUpTo : Trials → ℕ → Type 0
ReadableUpTo ev p = (q : ℕ) → q ≤ p → (ev q).sort ≡ Unreadable → ⊥

-- The premise of demand 3.
pub record Findable (ev : Trials) (first : ℕ) : Type 0 where
  pub k : ℕ
  -- "some of the 41 outward trial points isn't short of the time": the k-th is the first.
  pub first_not_short : FirstNotShort ev first 41 k
  -- "no double from zero to the first such point is unreadable"
  pub readable : ReadableUpTo ev (out_point first k)

-- An end of a pair has the sort and error that it says.
abbrev pub IsShortEnd : Trials → End → Type 0
IsShortEnd ev e = (ev e.place).sort ≡ Short e.error

abbrev pub IsPastEnd : Trials → End → Type 0
IsPastEnd ev e = (ev e.place).sort ≡ Past e.error

-- "an adjacent short and past pair"
pub record Neighbours (ev : Trials) (short past : End) : Type 0 where
  pub short_is : IsShortEnd ev short
  pub past_is : IsPastEnd ev past
  pub adjacent : past.place ≡ short.place + 1

-- The search closed on such a pair, or at a zero error.
abbrev pub IsFound : Trials → Ending → Type 0
IsFound ev (between s) = Neighbours ev s.short s.past
IsFound ev (exact p) = (ev p).sort ≡ Exact
IsFound ev unreadable = ⊥
IsFound ev all_short = ⊥

abbrev pub Finds : Type 0
Finds = (ev : Trials) (pr : Proposal) (first : ℕ) (error : Float) → Sorts ev error → Findable ev first → IsFound ev (ending_of (history ev pr first error))

-- The place that an ending answers; a search's `finding_of` answers its anomaly.
abbrev pub IsAnswer : Ending → (place : ℕ) → Type 0
IsAnswer (between s) p = p ≡ (nearer_end s.short s.past).place
IsAnswer (exact q) p = p ≡ q
IsAnswer unreadable p = ⊥
IsAnswer all_short p = ⊥

-- An anomaly's place: "a zero error, or one end of an adjacent short and past pair, chosen so."
abbrev pub IsAnomaly : Trials → (place : ℕ) → Type 0
IsAnomaly ev p = ((ev p).sort ≡ Exact) ⊎ ((short past : End) × Neighbours ev short past × (p ≡ (nearer_end short past).place))

abbrev pub Answers : Type 0
Answers =
    (ev : Trials) (pr : Proposal) (first : ℕ) (error : Float) → Sorts ev error → Findable ev first →
    (p : ℕ) × IsAnswer (ending_of (history ev pr first error)) p × IsAnomaly ev p

-- However it ends: an anomaly is found, an unreadable point was tried, or all outward points were short.
abbrev pub EndsAs : Trials → Ending → Type 0
EndsAs ev e = IsFound ev e ⊎ ((e ≡ unreadable) ⊎ (e ≡ all_short))

abbrev pub EndsSo : Type 0
EndsSo = (ev : Trials) (pr : Proposal) (first : ℕ) (error : Float) → Sorts ev error → EndsAs ev (ending_of (history ev pr first error))

-- ---- The history with another number of rounds, for the sharper bounds that the places give.
abbrev pub history_in : (rounds : ℕ) → Trials → Proposal → (first : ℕ) (error : Float) → History
history_in rounds ev pr first error = onward [] (outward_part ev first error) (inward ev pr rounds 0)

-- ---- One of these points is unreadable.
abbrev pub SomeUnreadable : List Point → Type 0
SomeUnreadable [] = ⊥
SomeUnreadable (p ∷ ps) = (p.trial.sort ≡ Unreadable) ⊎ SomeUnreadable ps

-- Of these points the last is unreadable, and no other.
pub record LastUnreadable (ps : List Point) : Type 0 where
  pub before : List Point
  pub last : Point
  pub all : ps ≡ before ++ (last ∷ [])
  pub last_is : last.trial.sort ≡ Unreadable
  pub readable_before : SomeUnreadable before → ⊥
