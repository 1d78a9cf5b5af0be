-- What the two calls promise besides their one answer, next to the demands' own words.
use Rattle.std.specs.Prelude.{◌≡◌, ◌⊎◌, true, false, List, ℕ, ◌+◌, ◌<◌, ◌≤◌, length, Option, None, Ok, Err}
use Rattle.std.specs.Float.{binary64}
use Rattle.std.specs.Float.Ieee.{eq, of_bits}
use Rattle.bits.specs.Arithmetic.{n0, is_finite}
use Rattle.bits.specs.Words.{place_of, words_of}
use Rattle.bits.specs.declared.refusal.Refusal.{Refusal}
use Rattle.bits.specs.declared.refusal.Refusal.TheVariants.{PartialsLength, RadiusNotPositive, EndNotFinite}
use Rattle.search_points.specs.Trial.{anomaly_at, trial_at}
use Rattle.search_rule.specs.RulePromise.{Findable, IsAnomaly}
use Rattle.search.specs.Search.{Proposing}
use Rattle.search.specs.SearchPromise.{tried_by}
use Rattle.series.specs.declared.figures.Seconds.{Seconds}
use Rattle.states_revolutions.specs.Revolutions.{interval_of}
use Rattle.states_revolutions.specs.declared.figures.WholeInterval.{WholeInterval}
use Rattle.states_revolutions.specs.declared.figures.Interval.{Interval}
use Rattle.states_revolutions.specs.declared.figures.Revolution.{Revolution}
use Rattle.states_arcs.specs.Results.{arc_of, ended_of}
use Rattle.states_arcs.specs.Results as arcs
use Rattle.states_arcs.specs.declared.figures.Arc.{Arc}
use Rattle.states_arcs.specs.declared.figures.Results.{Results}
use Rattle.states_partials.specs.Entries.{entries_of}
use Rattle.states_partials.specs.Partials.{partials_refusal}
use Rattle.states_start.specs.Given.{figure_refusal, read_of, AnyBad, FirstBad}
use Rattle.states_start.specs.Initial.{begun_of, first_step_of}
use Rattle.states.specs.Call.{Parting, wholly, Answering, refused, answered, refusal_of, points_of, results_of, no_results, orbit_words, propagate_by}
use Rattle.states.specs.WithPartials.{partials_by, lent_by}
use Rattle.states_start.specs.declared.figures.Orbit.{Orbit}
use Rattle.states_start.specs.declared.figures.Start.{Start}

-- Demand 1: "A bad number, a zero radius, an unreachable time or a damaged file gets the one refusal that the rules give it, with zeros for figures and lent
-- memory unchanged." Which refusal it is, and that there is one, is what the definitions of the calls say.
abbrev pub ZerosOrAnswer : Type 0
ZerosOrAnswer =
    (pt : Parting) (pr : Proposing) (words : List ℕ) →
    (refusal_of (propagate_by pt pr words) ≡ 0) ⊎ (results_of (propagate_by pt pr words) ≡ no_results)

abbrev pub UnchangedOrAnswer : Type 0
UnchangedOrAnswer =
    (pt : Parting) (pr : Proposing) (words run : List ℕ) →
    (refusal_of (partials_by pt pr words run) ≡ 0) ⊎ ((results_of (partials_by pt pr words run) ≡ no_results) × (lent_by pt pr words run ≡ run))

-- T-05, for the answer to eight words.
pub record NamesBad (words : List ℕ) (a : Answering) : Type 0 where
  -- "Give the first bad one by name": the first figure that is NaN or infinite gives its number, no points and no figures, whatever else could be refused;
  pub named : (k : ℕ) → FirstBad words k → a ≡ refused (figure_refusal k) 0
  pub numbered : (k : ℕ) → FirstBad words k → refusal_of a ≡ 31 + k
  -- and where a figure's number is given, it is the first.
  pub told : (k : ℕ) → k < 8 → refusal_of a ≡ 31 + k → FirstBad words k
  -- "The set of refused inputs is the same": 31 to 38 are given exactly where document 01 gives 2.
  pub refused_all : AnyBad words → (31 ≤ refusal_of a) × (refusal_of a ≤ 38)
  pub refused_only : 31 ≤ refusal_of a → refusal_of a ≤ 38 → AnyBad words
  -- "31 to 38 replace 2".
  pub never_2 : refusal_of a ≡ 2 → ⊥

-- Both calls; "at its place": 1 comes first, whatever the words are.
abbrev pub NamesFigure : Type 0
NamesFigure =
    (pt : Parting) (pr : Proposing) (words : List ℕ) → length words ≡ 8 →
    NamesBad words (propagate_by pt pr words)
    × ((run : List ℕ) → length run ≡ 36 → NamesBad words (partials_by pt pr words run))
    × ((run : List ℕ) → (length run ≡ 36 → ⊥) → partials_by pt pr words run ≡ refused PartialsLength 0)

-- The same by the names of the eight, and with the numbers written out: "in the order μ, x, y, z, vx, vy, vz, τ".
abbrev pub Finite : ℕ → Type 0
Finite word = is_finite (of_bits binary64 word) ≡ true

abbrev pub Bad : ℕ → Type 0
Bad word = is_finite (of_bits binary64 word) ≡ false

pub record ByName (mu x y z vx vy vz tau refusal : ℕ) : Type 0 where
  pub bad_mu : Bad mu → refusal ≡ 31
  pub bad_x : Finite mu → Bad x → refusal ≡ 32
  pub bad_y : Finite mu → Finite x → Bad y → refusal ≡ 33
  pub bad_z : Finite mu → Finite x → Finite y → Bad z → refusal ≡ 34
  pub bad_vx : Finite mu → Finite x → Finite y → Finite z → Bad vx → refusal ≡ 35
  pub bad_vy : Finite mu → Finite x → Finite y → Finite z → Finite vx → Bad vy → refusal ≡ 36
  pub bad_vz : Finite mu → Finite x → Finite y → Finite z → Finite vx → Finite vy → Bad vz → refusal ≡ 37
  pub bad_tau : Finite mu → Finite x → Finite y → Finite z → Finite vx → Finite vy → Finite vz → Bad tau → refusal ≡ 38

abbrev pub CallsName : Type 0
CallsName =
    (pt : Parting) (pr : Proposing) (mu x y z vx vy vz tau : ℕ) →
    let words = orbit_words mu x y z vx vy vz tau in
    ByName mu x y z vx vy vz tau (refusal_of (propagate_by pt pr words))
    × ((run : List ℕ) → length run ≡ 36 → ByName mu x y z vx vy vz tau (refusal_of (partials_by pt pr words run)))

-- "initial figures that pass refusals 1 to 4": the call gets as far as the search. T-04: "H and demands 2 and 3 then speak of the reduced interval".
pub record Searches (pt : Parting) (words : List ℕ) : Type 0 where
  pub orbit : Orbit
  pub whole : WholeInterval
  pub start : Start
  pub course : Option Revolution
  -- Not refused by 31 to 38, which replace 2 since T-05.
  pub reads : read_of words ≡ Ok (record { orbit = orbit; whole = whole })
  -- Nor by 3, nor by 4, H apart.
  pub begins : begun_of orbit ≡ Ok (record { start = start; course = course })
  -- Nor by 4 for H.
  pub steps : is_finite (first_step_of start.initial (pt course whole).searched).0 ≡ true

-- The interval of such a call, and the part of it that is searched.
abbrev pub interval_in : {pt : Parting} {words : List ℕ} → Searches pt words → Interval
interval_in {pt = pt} s = pt s.course s.whole

abbrev pub searched_in : {pt : Parting} {words : List ℕ} → Searches pt words → Seconds
searched_in s = (interval_in s).searched

-- The place of |H|, where the search starts.
abbrev pub first_place : Start → Seconds → ℕ
first_place s tau = place_of (first_step_of s.initial tau).0

-- How a call ends, at the arc of the anomaly that it found and with the points used.
abbrev pub Ending : Type 1
Ending = Arc → (points : ℕ) → Answering → Type 0

-- Without partials. Refusal 7: "r at the found ψ isn't greater than zero"; 8: "a divisor under Results and partials is zero, or a figure of the answer isn't
-- finite": of this arc, and of no other.
pub record EndsWith (arc : Arc) (points : ℕ) (a : Answering) : Type 0 where
  pub refuses : (k : Refusal) → ended_of arc ≡ Err k → a ≡ refused k points
  pub answers : (r : Results) → ended_of arc ≡ Ok r → a ≡ answered points r

-- With them: 8 also by "the partials' own divisors and figures". "lent memory keeps its bytes", or holds the partials of this arc.
pub record EndsWithPartials (run after : List ℕ) (arc : Arc) (points : ℕ) (a : Answering) : Type 0 where
  pub refuses : (k : Refusal) → ended_of arc ≡ Err k → (a ≡ refused k points) × (after ≡ run)
  pub refuses_partials :
      (r : Results) (k : Refusal) → ended_of arc ≡ Ok r → partials_refusal arc run ≡ Err k → (a ≡ refused k points) × (after ≡ run)
  pub answers :
      (r : Results) → ended_of arc ≡ Ok r → partials_refusal arc run ≡ Ok tt → (a ≡ answered points r) × (after ≡ words_of (entries_of arc))

-- "At most 167 trial points are spent, and the reported number is how many the search used. The call answers with that anomaly or refuses by 7 or 8 alone." The
-- anomaly is `anomaly_at` of the searched interval and the place. Since T-01 demand 3 reads: "a zero error, or one end of an adjacent short and past pair,
-- chosen so". That is `IsAnomaly`, by sorts; `sorts_mean` of crate `search_points` says the same by document 01's R.
pub record AnswersAt (pr : Proposing) (s : Start) (d : Interval) (Ends : Ending) (a : Answering) : Type 0 where
  pub place : ℕ
  pub points : ℕ
  pub anomaly : IsAnomaly (trial_at s.initial d.searched) place
  pub used : points ≡ length (tried_by (pr s.initial d.searched) s.initial d.searched (first_place s d.searched))
  pub at_most : points ≤ 167
  pub answer :
      (a ≡ answered points (arcs.results_of (arc_of s d (anomaly_at d.searched place))))
      ⊎ ((a ≡ refused RadiusNotPositive points) ⊎ (a ≡ refused EndNotFinite points))
  -- Which of the three it is, the arc at that anomaly says.
  pub ends : Ends (arc_of s d (anomaly_at d.searched place)) points a

-- The reported number, and the ψ of an answer: T-04, "the ψ handed out is the reduced one".
pub record Reports (pr : Proposing) (s : Start) (d : Interval) (Ends : Ending) (a : Answering) : Type 0 where
  pub at : AnswersAt pr s d Ends a
  pub reported : points_of a ≡ at.points
  pub psi : refusal_of a ≡ 0 → (results_of a).psi ≡ anomaly_at d.searched at.place

-- Demand 3, whole, for both calls: "Take nonzero time and initial figures that pass refusals 1 to 4. If some of the 41 outward trial points isn't short
-- of the time, and no double from zero to the first such point is unreadable, an anomaly is found. .. All but the number's exact size must hold
-- whatever formula proposes the inner points, one a round." `Findable` is the premise; `pr` is the formula; the record has the rest. The time is the
-- one that is searched, whatever comes off.
abbrev pub FindsAnomaly : Type 0
FindsAnomaly =
    (pt : Parting) (pr : Proposing) (words : List ℕ) (s : Searches pt words) → eq (searched_in s).0 n0 ≡ false →
    Findable (trial_at s.start.initial (searched_in s)) (first_place s.start (searched_in s)) →
    Reports pr s.start (interval_in s) EndsWith (propagate_by pt pr words)
    × ((run : List ℕ) → length run ≡ 36 → Reports pr s.start (interval_in s) (EndsWithPartials run (lent_by pt pr words run)) (partials_by pt pr words run))

-- T-01, "Point counts stay", for both calls, however they end: the points are those of the history, which does not depend on the end that is answered.
abbrev pub CountsPoints : Type 0
CountsPoints =
    (pt : Parting) (pr : Proposing) (words : List ℕ) (s : Searches pt words) → eq (searched_in s).0 n0 ≡ false →
    let i = s.start.initial in
    let tau = searched_in s in
    let used = length (tried_by (pr i tau) i tau (first_place s.start tau)) in
    (points_of (propagate_by pt pr words) ≡ used) × ((run : List ℕ) → length run ≡ 36 → points_of (partials_by pt pr words run) ≡ used)

-- The searched interval is finite: one that is not has no finite H, and is refused by 4.
abbrev pub SearchesFinite : Type 0
SearchesFinite = (pt : Parting) (words : List ℕ) (s : Searches pt words) → is_finite (searched_in s).0 ≡ true

-- T-04: "if that interval is zero, ψ is +0 with no points", for both calls.
abbrev pub AtOnce : Answering → Type 0
AtOnce a = (points_of a ≡ 0) × (refusal_of a ≡ 0 → (results_of a).psi ≡ record { 0 = n0 })

abbrev pub NothingSearched : Type 0
NothingSearched =
    (pt : Parting) (pr : Proposing) (words : List ℕ) (s : Searches pt words) → eq (searched_in s).0 n0 ≡ true →
    AtOnce (propagate_by pt pr words) × ((run : List ℕ) → length run ≡ 36 → AtOnce (partials_by pt pr words run))

-- T-04, "else 01 stands": no revolution comes off what the words ask for.
abbrev pub NoneComesOff : List ℕ → Type 0
NoneComesOff words =
    (o : Orbit) (whole : WholeInterval) (s : Start) (c : Option Revolution) →
    read_of words ≡ Ok (record { orbit = o; whole = whole }) → begun_of o ≡ Ok (record { start = s; course = c }) → (interval_of c whole).off ≡ None

-- Then every word of every answer, and of the lent run, is that of the call that takes nothing off.
abbrev pub Else01Stands : Type 0
Else01Stands =
    (pr : Proposing) (words : List ℕ) → NoneComesOff words →
    (propagate_by interval_of pr words ≡ propagate_by wholly pr words)
    × ((run : List ℕ) →
    (partials_by interval_of pr words run ≡ partials_by wholly pr words run) × (lent_by interval_of pr words run ≡ lent_by wholly pr words run))
