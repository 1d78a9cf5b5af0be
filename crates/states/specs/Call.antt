-- Document 01, "Refusals in order of checking", for the call without partials and what the two calls share: "A refusal carries the trial points used so far (0
-- for 1 to 4 and 9), all other figures +0; lent memory keeps its bytes. The first that applies is given, and none otherwise." Since T-05, 31 to 38 replace 2.
use Rattle.std.specs.Prelude.{not, List, [], ◌∷◌, ℕ, Option, Result, Ok, Err}
use Rattle.bits.specs.Choice.{pick}
use Rattle.bits.specs.Arithmetic.{n0, is_finite}
use Rattle.bits.specs.Words.{words_of}
use Rattle.bits.specs.Refusal.{number_of}
use Rattle.bits.specs.declared.refusal.Refusal.{Refusal}
use Rattle.bits.specs.declared.refusal.Refusal.TheVariants.{StartNotFinite}
use Rattle.series.specs.declared.figures.Anomaly.{Anomaly}
use Rattle.series.specs.declared.figures.Seconds.{Seconds}
use Rattle.search_points.specs.declared.figures.Initial.{Initial}
use Rattle.search_proposals.specs.Proposals.{three_proposals}
use Rattle.search.specs.Search.{Finding, found_with, Proposing, search_by}
use Rattle.search.specs.declared.figures.Refused.{Refused}
use Rattle.states_revolutions.specs.Revolutions.{as_it_is, interval_of}
use Rattle.states_revolutions.specs.declared.figures.WholeInterval.{WholeInterval}
use Rattle.states_revolutions.specs.declared.figures.Interval.{Interval}
use Rattle.states_revolutions.specs.declared.figures.Revolution.{Revolution}
use Rattle.states_arcs.specs.Results.{arc_of, figures_of, ended_of}
use Rattle.states_arcs.specs.declared.figures.Results.{Results}
use Rattle.states_start.specs.Given.{read_of}
use Rattle.states_start.specs.Initial.{begun_of, first_step_of}
use Rattle.states_start.specs.declared.figures.Vector.{Vector}
use Rattle.states_start.specs.declared.figures.Orbit.{Orbit}
use Rattle.states_start.specs.declared.figures.Start.{Start}
use Rattle.states_start.specs.declared.figures.Given.{Given}
use Rattle.states_start.specs.declared.figures.Begun.{Begun}
use Rattle.states.specs.declared.figures.Seeking.{Seeking}
use Rattle.states.specs.declared.figures.Seeking.TheVariants as seeking
use Rattle.states.specs.declared.figures.Reached.{Reached}
use Rattle.states.specs.declared.figures.Answer.{Answer}

-- What a way ends with that may be refused: the arc that is reached, and the answer.
abbrev pub Reaching : Type 0
Reaching = Result Reached Refused

abbrev pub Answering : Type 0
Answering = Result Answer Refused

abbrev pub refused : {T : Type 0} → Refusal → (points : ℕ) → Result T Refused
refused refusal points = Err (record { refusal = refusal; points = points })

abbrev pub answered : (points : ℕ) → Results → Answering
answered points results = Ok (record { points = points; results = results })

-- The number of the refusal of an answer, or 0; and its points.
abbrev pub refusal_of : Answering → ℕ
refusal_of (Ok a) = 0
refusal_of (Err r) = number_of r.refusal

abbrev pub points_of : Answering → ℕ
points_of (Ok a) = a.points
points_of (Err r) = r.points

-- "all other figures +0"
abbrev pub nothing : Vector
nothing = record { x = n0; y = n0; z = n0 }

abbrev pub no_results : Results
no_results =
    record {
      end = record { position = nothing; velocity = nothing };
      end_acceleration = nothing;
      start_acceleration = nothing;
      psi = record { 0 = n0 };
    }

-- The figures of an answer.
abbrev pub results_of : Answering → Results
results_of (Ok a) = a.results
results_of (Err r) = no_results

-- Refusal 5: "all 41 outward points are short"; 6: "a point that the search tries is unreadable"; both with the points used so far. Else the found ψ's arc.
unfoldable pub reached_found : Start → Interval → Finding → Reaching
reached_found s d (Err r) = Err r
reached_found s d (Ok f) = Ok (record { arc = arc_of s d f.psi; points = f.points })

-- Where the anomaly of an interval comes from, with the initial figures of a state and H: from a search, whatever formula proposes its inner points; or it is
-- given, as in another station's row (T-06).
abbrev pub Finder : Type 0
Finder = Initial → Seconds → (h : Anomaly) → Finding

abbrev pub searching : Proposing → Finder
searching pr i tau h = search_by (pr i tau) i tau h

abbrev pub taking : Anomaly → Finder
taking psi i tau h = found_with psi 0

-- By document 01's three proposals, which the contracts use, or as it is given.
abbrev pub finder_of : Seeking → Finder
finder_of seeking.Search = searching three_proposals
finder_of (seeking.Given psi) = taking psi

-- Refusal 4 by the H of the searched interval; then the anomaly.
unfoldable pub reached_over_by : Finder → Start → Interval → Reaching
reached_over_by find s d =
    let i = s.initial in
    let tau = d.searched in
    let h = first_step_of i tau in
    pick (not (is_finite h.0)) (refused StartNotFinite 0) (reached_found s d (find i tau h))

-- What comes off an interval before it is searched. T-04's rule, which the contracts use, is `interval_of`; with `wholly`, which takes nothing off, it is
-- the call that document 01 alone describes.
abbrev pub Parting : Type 0
Parting = Option Revolution → WholeInterval → Interval

abbrev pub wholly : Parting
wholly course whole = as_it_is whole

unfoldable pub reached_from_by : Parting → Finder → Start → Option Revolution → WholeInterval → Reaching
reached_from_by pt find s c whole = reached_over_by find s (pt c whole)

-- Refusals 3 and 4 by the orbit.
abbrev pub reached_begun_by : Parting → Finder → Result Begun Refusal → WholeInterval → Reaching
reached_begun_by pt find (Err r) whole = refused r 0
reached_begun_by pt find (Ok b) whole = reached_from_by pt find b.start b.course whole

unfoldable pub reached_orbit_by : Parting → Finder → Orbit → WholeInterval → Reaching
reached_orbit_by pt find o whole = reached_begun_by pt find (begun_of o) whole

-- The eight words of a call, by their names.
abbrev pub orbit_words : (mu x y z vx vy vz tau : ℕ) → List ℕ
orbit_words mu x y z vx vy vz tau = mu ∷ x ∷ y ∷ z ∷ vx ∷ vy ∷ vz ∷ tau ∷ []

-- T-05: "31 to 38 replace 2, at its place", before all others but 1.
abbrev pub reached_read_by : Parting → Finder → Result Given Refusal → Reaching
reached_read_by pt find (Err r) = refused r 0
reached_read_by pt find (Ok g) = reached_orbit_by pt find g.orbit g.whole

unfoldable pub reached_words_by : Parting → Finder → List ℕ → Reaching
reached_words_by pt find words = reached_read_by pt find (read_of words)

-- Refusals 7 and 8, with the points used.
unfoldable pub ended_answer : (points : ℕ) → Result Results Refusal → Answering
ended_answer n (Err k) = refused k n
ended_answer n (Ok r) = answered n r

abbrev pub answer_from : Reaching → Answering
answer_from (Err r) = Err r
answer_from (Ok x) = ended_answer x.points (ended_of x.arc)

unfoldable pub propagate_by : Parting → Proposing → List ℕ → Answering
propagate_by pt pr words = answer_from (reached_words_by pt (searching pr) words)

-- The same by T-04's rule and the three proposals of document 01.
abbrev pub propagate_of : List ℕ → Answering
propagate_of = propagate_by interval_of three_proposals

-- ---- An answer as words: refusal, points, position, velocity, end acceleration, start acceleration, ψ.
unfoldable pub answer_words : Answering → List ℕ
answer_words a = refusal_of a ∷ points_of a ∷ words_of (figures_of (results_of a))
