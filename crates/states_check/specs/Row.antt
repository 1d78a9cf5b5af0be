-- Document 02, T-06: "Partners send rows with eight input words, a proposed anomaly and the nine end figures of position, velocity and acceleration.
-- We want a yes or no per row, without rerunning the search." What "yes" is in the document's own words is `Acceptable` of RowPromise; here it is
-- worked out step by step, as in the code.
use Rattle.std.specs.Prelude.{Bool, false, List, ℕ, take, Result, Ok, Err}
use Rattle.std.specs.Float.{binary64}
use Rattle.std.specs.Float.Ieee.{of_bits}
use Rattle.bits.specs.Choice.{pick}
use Rattle.bits.specs.Words.{words_of}
use Rattle.bits.specs.Runs.{same_words}
use Rattle.bits.specs.declared.refusal.Refusal.{Refusal}
use Rattle.series.specs.declared.figures.Anomaly.{Anomaly}
use Rattle.search_check.specs.Right.{is_right}
use Rattle.states_revolutions.specs.Revolutions.{interval_of}
use Rattle.states_arcs.specs.Results.{figures_of, ended_of}
use Rattle.states_arcs.specs.declared.figures.Arc.{Arc}
use Rattle.states_arcs.specs.declared.figures.Results.{Results}
use Rattle.states.specs.Call.{Reaching, taking, reached_words_by}

-- "the nine end figures of position, velocity and acceleration": three each, in this order, the first nine of the thirteen that a call answers, as words.
abbrev pub nine_words : Results → List ℕ
nine_words r = take 9 (words_of (figures_of r))

-- The proposed anomaly.
abbrev pub proposed : (anomaly : ℕ) → Anomaly
proposed anomaly = record { 0 = of_bits binary64 anomaly }

-- "the nine figures equal 01's formulas in every bit .. with 7 and 8 not applying".
abbrev pub ends_with : Result Results Refusal → (nine : List ℕ) → Bool
ends_with (Ok r) nine = same_words (nine_words r) nine
ends_with (Err k) nine = false

-- The anomaly is right for the interval that is searched, and the arc ends with the nine figures "at that anomaly".
unfoldable pub accepts_at : Arc → (anomaly : ℕ) (nine : List ℕ) → Bool
accepts_at arc anomaly nine = pick (is_right arc.start.initial arc.interval.searched anomaly) (ends_with (ended_of arc) nine) false

abbrev pub accepts_from : Reaching → (anomaly : ℕ) (nine : List ℕ) → Bool
accepts_from (Ok x) anomaly nine = accepts_at x.arc anomaly nine
accepts_from (Err r) anomaly nine = false

-- A row: its eight input words, its anomaly and its nine figures. The steps are the call's, with its refusals 31 to 38, 3 and 4 and
-- T-04's reduction, but the anomaly is given.
unfoldable pub accepts : (given : List ℕ) (anomaly : ℕ) (nine : List ℕ) → Bool
accepts given anomaly nine = accepts_from (reached_words_by interval_of (taking (proposed anomaly)) given) anomaly nine
