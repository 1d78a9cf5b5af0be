-- What an accepted row is, in document 02's words (T-06), and what that means beside our own call.
use Rattle.std.specs.Prelude.{◌≡◌, true, List, ◌⊎◌, ℕ, ◌≤◌, take, drop, get_or, Ok}
use Rattle.std.specs.Float.{binary64}
use Rattle.std.specs.Float.Ieee.{to_bits}
use Rattle.search.specs.Search.{found_with, Proposing, search_by}
use Rattle.search_check.specs.Right.{Right}
use Rattle.states_revolutions.specs.Revolutions.{interval_of}
use Rattle.states_start.specs.Initial.{first_step_of}
use Rattle.states_arcs.specs.Results.{arc_of, ended_of}
use Rattle.states_arcs.specs.declared.figures.Results.{Results}
use Rattle.states.specs.Call.{Answering, refusal_of, results_of, answer_words, propagate_by}
use Rattle.states.specs.CallPromise.{Searches, interval_in, searched_in}
use Rattle.states_check.specs.Row.{nine_words, proposed, accepts}

-- "Yes exactly when refusals 31 to 38, 3 and 4 don't apply, the anomaly is +0 for zero τ, or otherwise has the sign of τ and is exact, or is the answer T-01
-- picks from its adjacent pair (the next place out if it is short, the next in if past), and the nine figures equal 01's formulas in every bit at that anomaly
-- with 7 and 8 not applying. T-04's reduction is made first."
pub record Acceptable (given : List ℕ) (anomaly : ℕ) (nine : List ℕ) : Type 0 where
  -- 31 to 38, 3 and 4, also by the H of the searched interval: the call would get as far as its search.
  pub searches : Searches interval_of given
  -- For the interval that is searched.
  pub right : Right searches.start.initial (searched_in searches) anomaly
  -- 7 and 8 don't apply at the anomaly, and these are the results. 8 is about all that the call answers, also the start's acceleration, which no row carries.
  pub results : Results
  pub ends : ended_of (arc_of searches.start (interval_in searches) (proposed anomaly)) ≡ Ok results
  pub figures : nine_words results ≡ nine

pub record AcceptsSo (given : List ℕ) (anomaly : ℕ) (nine : List ℕ) : Type 0 where
  pub only : accepts given anomaly nine ≡ true → Acceptable given anomaly nine
  pub all : Acceptable given anomaly nine → accepts given anomaly nine ≡ true

abbrev pub AcceptsExactly : Type 0
AcceptsExactly = (given : List ℕ) (anomaly : ℕ) (nine : List ℕ) → AcceptsSo given anomaly nine

-- ---- "Every row we ourselves answer must be accepted."

-- The anomaly and the nine figures of an answer, which a row carries beside its input.
abbrev pub anomaly_in : Answering → ℕ
anomaly_in a = to_bits binary64 (results_of a).psi.0

abbrev pub nine_in : Answering → List ℕ
nine_in a = nine_words (results_of a)

-- They are among the fifteen words that the call answers: ψ is the last; position, velocity and end acceleration are the nine after the refusal and the points.
pub record InAnswer (a : Answering) : Type 0 where
  pub anomaly : anomaly_in a ≡ get_or (answer_words a) 14 0
  pub nine : nine_in a ≡ take 9 (drop 2 (answer_words a))

abbrev pub OwnWords : Type 0
OwnWords = (a : Answering) → InAnswer a

-- Whatever formula proposes the inner points of the search: so the rows of a station that tries another one are accepted too.
abbrev pub AcceptsOwn : Type 0
AcceptsOwn =
    (pr : Proposing) (given : List ℕ) → let a = propagate_by interval_of pr given in refusal_of a ≡ 0 →
    accepts given (anomaly_in a) (nine_in a) ≡ true

-- ---- Our own call on the input of an accepted row is not refused by 31 to 38, 3 or 4, nor at the row's anomaly by 7 or 8,
-- whatever formula proposes its inner points.
pub record BesideCall (pr : Proposing) (given : List ℕ) (anomaly : ℕ) (nine : List ℕ) (s : Searches interval_of given) : Type 0 where
  -- Nothing before the search refuses it: it answers, or its refusal is one of 5 to 8.
  pub after_search : let a = propagate_by interval_of pr given in (refusal_of a ≡ 0) ⊎ ((5 ≤ refusal_of a) × (refusal_of a ≤ 8))
  -- Where its search finds the row's anomaly, it is not refused by 7 or 8 either: it answers, and with the row's figures.
  pub at_anomaly :
      let i = s.start.initial in
      let tau = searched_in s in
      let a = propagate_by interval_of pr given in
      (n : ℕ) → search_by (pr i tau) i tau (first_step_of i tau) ≡ found_with (proposed anomaly) n → (refusal_of a ≡ 0) × (nine_in a ≡ nine)

abbrev pub NotBeforeSearch : Type 0
NotBeforeSearch =
    (pr : Proposing) (given : List ℕ) (anomaly : ℕ) (nine : List ℕ) (x : Acceptable given anomaly nine) → BesideCall pr given anomaly nine x.searches
