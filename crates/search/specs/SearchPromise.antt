-- What the search of document 01 promises, with any proposal: what its caller learns without opening the history.
use Rattle.std.specs.Prelude.{ℕ, ◌≤◌, ◌≡◌, true, false, List, length, Ok, Err}
use Rattle.std.specs.Float.Ieee.{eq}
use Rattle.bits.specs.declared.refusal.Refusal.{Refusal}
use Rattle.bits.specs.declared.refusal.Refusal.TheVariants as reason
use Rattle.bits.specs.Arithmetic.{n0}
use Rattle.bits.specs.Words.{place_of}
use Rattle.series.specs.declared.figures.Anomaly.{Anomaly}
use Rattle.series.specs.declared.figures.Seconds.{Seconds}
use Rattle.search_points.specs.declared.figures.Initial.{Initial}
use Rattle.search_points.specs.Trial.{anomaly_at, trial_at}
use Rattle.search_rule.specs.Rule.{Point, Proposal, points_in}
use Rattle.search_rule.specs.Nearer.{Choosing, short_end}
use Rattle.search_rule.specs.RulePromise.{Findable, IsAnomaly, AllOutwardShort, SomeUnreadable, LastUnreadable}
use Rattle.search_proposals.specs.Proposals.{three_proposals}
use Rattle.search.specs.Search.{Finding, found_with, refused_with, history_by, search_choosing}

-- The points that a finding reports.
abbrev pub used_in : Finding → ℕ
used_in (Ok f) = f.points
used_in (Err r) = r.points

-- The points that a search tries, in order; and those that document 01's tries.
abbrev pub tried_by : Proposal → Initial → Seconds → (first : ℕ) → List Point
tried_by pr i tau first = points_in (history_by pr i tau first)

abbrev pub tried_at : Initial → Seconds → (first : ℕ) → List Point
tried_at i tau first = tried_by (three_proposals i tau) i tau first

-- What a finding says, where tau isn't zero. No search is refused for another reason than the two.
abbrev pub SaysRefused : Proposal → Initial → Seconds → (first : ℕ) → Refusal → Type 0
SaysRefused pr i tau first reason.AllShort = AllOutwardShort (trial_at i tau) first
SaysRefused pr i tau first reason.Unreadable = LastUnreadable (tried_by pr i tau first)
SaysRefused pr i tau first _ = ⊥

abbrev pub Says : Proposal → Initial → Seconds → (first : ℕ) → Finding → Type 0
Says pr i tau first (Ok f) = (p : ℕ) × (f.psi ≡ anomaly_at tau p) × IsAnomaly (trial_at i tau) p
Says pr i tau first (Err r) = SaysRefused pr i tau first r.refusal

-- And when a finding is given. "A made-up point count breaks demand 3, because the rule's own history has the count."
pub record Searched (pr : Proposal) (i : Initial) (tau : Seconds) (first : ℕ) (a : Finding) : Type 0 where
  pub says : Says pr i tau first a
  pub finds : Findable (trial_at i tau) first → (psi : Anomaly) × (a ≡ found_with psi (used_in a))
  pub all_short_lem : AllOutwardShort (trial_at i tau) first → a ≡ refused_with reason.AllShort 41
  pub unreadable : SomeUnreadable (tried_by pr i tau first) → a ≡ refused_with reason.Unreadable (used_in a)
  pub counts : used_in a ≡ length (tried_by pr i tau first)
  pub at_most : used_in a ≤ 145

-- All that a caller learns. "If τ is either zero, ψ = +0 with no trial points."
pub record Promise (pr : Proposal) (i : Initial) (tau : Seconds) (h : Anomaly) (a : Finding) : Type 0 where
  pub no_interval : eq tau.0 n0 ≡ true → a ≡ found_with (record { 0 = n0 }) 0
  pub interval : eq tau.0 n0 ≡ false → Searched pr i tau (place_of h.0) a

-- Demand 3, of the search: "an anomaly is found. .. At most 167 trial points are spent, and the reported number is how many the search used."
-- That is `at_most`; the places give a sharper bound, which is ours. What is found reads, since T-01: "a zero error, or one end of an
-- adjacent short and past pair, chosen so."
pub record Demand3 (pr : Proposal) (i : Initial) (tau : Seconds) (h : Anomaly) (a : Finding) : Type 0 where
  pub place : ℕ
  pub points : ℕ
  pub found : a ≡ found_with (anomaly_at tau place) points
  pub anomaly : IsAnomaly (trial_at i tau) place
  pub used : points ≡ length (tried_by pr i tau (place_of h.0))
  pub at_most : points ≤ 167
  pub sharper : points ≤ 145

-- ---- T-01: "Point counts stay." Whichever end is chosen, the search differs in ψ alone from document 01's, which answered the short end. The count is the
-- history's (`counts` above), and the history does not depend on the choice.
abbrev pub SameButAnomaly : Finding → Finding → Type 0
SameButAnomaly (Ok f) (Ok g) = f.points ≡ g.points
SameButAnomaly (Ok f) (Err r) = ⊥
SameButAnomaly (Err r) a = a ≡ Err r

abbrev pub PointsStay : Type 0
PointsStay =
    (choose : Choosing) (pr : Proposal) (i : Initial) (tau : Seconds) (h : Anomaly) →
    SameButAnomaly (search_choosing short_end pr i tau h) (search_choosing choose pr i tau h)
