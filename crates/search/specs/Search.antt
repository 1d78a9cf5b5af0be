-- The search of document 01, with T-01 of document 02: the rule's history at the time error's trial points, and the end of its pair that is answered. It is
-- written with any proposal; document 01's three are one instance.
use Rattle.std.specs.Prelude.{ℕ, [], Result, Ok, Err}
use Rattle.std.specs.Float.Ieee.{neg, eq}
use Rattle.bits.specs.declared.refusal.Refusal.{Refusal}
use Rattle.bits.specs.declared.refusal.Refusal.TheVariants as reason
use Rattle.bits.specs.Choice.{pick}
use Rattle.bits.specs.Arithmetic.{n0}
use Rattle.bits.specs.Words.{place_of}
use Rattle.series.specs.declared.figures.Anomaly.{Anomaly}
use Rattle.series.specs.declared.figures.Seconds.{Seconds}
use Rattle.search_points.specs.declared.figures.Initial.{Initial}
use Rattle.search_points.specs.Trial.{anomaly_at, trial_at}
use Rattle.search_rule.specs.declared.pair.Pair.{Pair}
use Rattle.search_rule.specs.declared.pair.Next.{Next}
use Rattle.search_rule.specs.declared.pair.Next.TheVariants.{Between, Exact, Unreadable, AllShort}
use Rattle.search_rule.specs.Rule.{Proposal, History, outward_part, round, inward, history, counted}
use Rattle.search_rule.specs.Nearer.{Choosing, nearer_end}
use Rattle.search_proposals.specs.Proposals.{three_proposals}
use Rattle.search.specs.declared.figures.Found.{Found}
use Rattle.search.specs.declared.figures.Refused.{Refused}

-- What a search gives, with the trial points used: an anomaly, or a refusal, which is that all outward points are short, or that a point is unreadable.
abbrev pub Finding : Type 0
Finding = Result Found Refused

abbrev pub found_with : (psi : Anomaly) (points : ℕ) → Finding
found_with psi points = Ok (record { psi = psi; points = points })

abbrev pub refused_with : Refusal → (points : ℕ) → Finding
refused_with refusal points = Err (record { refusal = refusal; points = points })

-- The whole history, outward from the place of |H|. "Place 0 has R = −τ here."
abbrev pub history_by : Proposal → Initial → Seconds → (first : ℕ) → History
history_by pr i tau first = history (trial_at i tau) pr first (neg tau.0)

abbrev pub history_at : Initial → Seconds → (first : ℕ) → History
history_at i tau first = history_by (three_proposals i tau) i tau first

-- Its parts: outward; and inward from a pair, where document 01's proposals do not depend on what was tried before.
abbrev pub outward_at : Initial → Seconds → (first : ℕ) → History
outward_at i tau first = outward_part (trial_at i tau) first (neg tau.0)

abbrev pub round_at : Initial → Seconds → Pair → History
round_at i tau s = round (trial_at i tau) (three_proposals i tau) 0 [] s

abbrev pub inward_at : Initial → Seconds → Pair → History
inward_at i tau s = inward (trial_at i tau) (three_proposals i tau) 63 0 [] s

-- The found ψ is the exact point, or the end of the pair that is chosen.
abbrev pub finding_by : Choosing → Seconds → Next → Finding
finding_by choose tau (Between s n) = found_with (anomaly_at tau (choose s.short s.past).place) n
finding_by choose tau (Exact p n) = found_with (anomaly_at tau p) n
finding_by choose tau (Unreadable n) = refused_with reason.Unreadable n
finding_by choose tau (AllShort n) = refused_with reason.AllShort n

-- T-01: "When the search closes on a pair, answer the end whose R has the smaller magnitude, the short one on a tie."
abbrev pub finding_of : Seconds → Next → Finding
finding_of tau next = finding_by nearer_end tau next

-- "If τ is either zero, ψ = +0 with no trial points." It takes any choice, so that what a choice does not touch can be stated (SearchPromise `PointsStay`).
unfoldable pub search_choosing : Choosing → Proposal → Initial → Seconds → (h : Anomaly) → Finding
search_choosing choose pr i tau h =
    pick (eq tau.0 n0)
    (found_with (record { 0 = n0 }) 0)
    (finding_by choose tau (counted 0 (history_by pr i tau (place_of h.0))))

abbrev pub search_by : Proposal → Initial → Seconds → (h : Anomaly) → Finding
search_by pr i tau h = search_choosing nearer_end pr i tau h

abbrev pub search_of : Initial → Seconds → (h : Anomaly) → Finding
search_of i tau h = search_by (three_proposals i tau) i tau h

-- A formula that proposes the inner points, at the initial figures of a state and an interval; `three_proposals` is document 01's.
abbrev pub Proposing : Type 0
Proposing = Initial → Seconds → Proposal
