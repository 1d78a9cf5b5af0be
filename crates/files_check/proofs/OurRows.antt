-- Our own rows are rows, and pass in a file.
use Prim.Native.Nat.{ℕ, ◌^◌, ◌<◌}
use mathlib.Core.Path.{◌≡◌, refl, sym, ap, ap₂, subst, ◌∙◌}
use mathlib.Core.Logic.{inl, inr}
use mathlib.Core.List.{List, [], ◌∷◌, ◌++◌, map}
use native.Mathlib.Omega.{arith}
use lib.Dec.{T}
use lib.Ieee.{Float, binary64, fits, neg, to_bits}
use lib.Ieee.Bits.{to_bits-lt, of_bits-fits}
use lib.Ieee.Fits.{add-fits, div-fits}
use lib.ListN.{length, drop, replicate}
use Rattle.bits.specs.Arithmetic.{◌⊗◌}
use Rattle.bits.proofs.RefusalLaws.{number_bounds}
use Rattle.std.specs.Prelude.{Ok, Err}
use Rattle.series.specs.declared.figures.Anomaly.{Anomaly}
use Rattle.series.specs.declared.figures.Seconds.{Seconds}
use Rattle.search.specs.Search.{Finding, Proposing, found_with}
use Rattle.search_points.specs.declared.figures.Initial.{Initial}
use Rattle.search_check.proofs.RightLaws.{finds_right}
use Rattle.states_revolutions.specs.Revolutions.{interval_of}
use Rattle.states_revolutions.specs.declared.figures.Interval.{Interval}
use Rattle.states_start.specs.Initial.{first_step_of}
use Rattle.states_start.specs.declared.figures.Start.{Start}
use Rattle.states_start.specs.declared.figures.Vector.{Vector}
use Rattle.states_arcs.specs.Results.{combined, end_state_of, arc_of, acceleration_of, results_of, figures_of, ended_of}
use Rattle.states_arcs.specs.declared.figures.Results.{Results}
use Rattle.states_arcs.proofs.EndLaws.{seven_or_eight}
use Rattle.states.specs.Call.{Reaching, Answering, refusal_of, ended_answer, answer_from, reached_found, propagate_by}
use Rattle.states.specs.Call.{results_of as figures_in}
use Rattle.states.specs.CallPromise.{Searches, interval_in, searched_in}
use Rattle.states.proofs.CallPromise.{Settled, settled, found_by, reaches, psi_of_lem}
use Rattle.states_check.specs.Row.{nine_words}
use Rattle.states_check.specs.RowPromise.{anomaly_in, nine_in}
use Rattle.states_check.proofs.RowLaws.{accepts_own, accepts_exactly}
use Rattle.files_words.specs.Bytes.{Below}
use Rattle.files_words.proofs.WordLaws.{below_append}
use Rattle.files_records.specs.Records.{AllOf}
use Rattle.files_check.specs.RowsPromise.{Row, IsRow, AreRows, verdict_on, OurRowIs, Ours, OurFilesPass}
use Rattle.files_check.proofs.RowsLaws.{our_rows_pass, judges_rows}

-- ---- What is computed is a double, and its word is below 2 ^ 64.
abbrev Double : Float → Type 0
Double x = T (fits binary64 x)

abbrev Doubles : Vector → Type 0
Doubles v = Double v.x × Double v.y × Double v.z

combined_doubles : (f g : Float) (q u : Vector) → Doubles (combined f g q u)
combined_doubles f g q u = (
  add-fits binary64 (f ⊗ q.x) (g ⊗ u.x),
  add-fits binary64 (f ⊗ q.y) (g ⊗ u.y),
  add-fits binary64 (f ⊗ q.z) (g ⊗ u.z),
)

acceleration_doubles : (mu r : Float) (q : Vector) → Doubles (acceleration_of mu r q)
unfolding acceleration_of
acceleration_doubles mu r q = (
  div-fits binary64 (neg mu ⊗ q.x) ((r ⊗ r) ⊗ r),
  div-fits binary64 (neg mu ⊗ q.y) ((r ⊗ r) ⊗ r),
  div-fits binary64 (neg mu ⊗ q.z) ((r ⊗ r) ⊗ r),
)

-- The words of three figures, before others.
three_below : (v : Vector) {Rest : Type 0} → Doubles v → Rest →
    (to_bits binary64 v.x < 2 ^ 64) × ((to_bits binary64 v.y < 2 ^ 64) × ((to_bits binary64 v.z < 2 ^ 64) × Rest))
three_below v d rest = (to_bits-lt binary64 v.x d.0, (to_bits-lt binary64 v.y d.1, (to_bits-lt binary64 v.z d.2, rest)))

nine_below : (r : Results) → Doubles r.end.position → Doubles r.end.velocity → Doubles r.end_acceleration → Below (2 ^ 64) (nine_words r)
unfolding figures_of
nine_below r p v a = three_below r.end.position p (three_below r.end.velocity v (three_below r.end_acceleration a tt))

nine_length : (r : Results) → length (nine_words r) ≡ 9
unfolding figures_of
nine_length r = refl

arc_below : (s : Start) (d : Interval) (psi : Anomaly) → Below (2 ^ 64) (nine_words (results_of (arc_of s d psi)))
unfolding results_of arc_of end_state_of
arc_below s d psi = nine_below (results_of (arc_of s d psi)) (combined_doubles _ _ _ _) (combined_doubles _ _ _ _) (acceleration_doubles _ _ _)

-- ---- Our own row.
-- The words of an answer that is not refused: its figures are those of an arc, and its anomaly the arc's.
pub record Words (a : Answering) : Type 0 where
  anomaly : anomaly_in a < 2 ^ 64
  nine : Below (2 ^ 64) (nine_in a)

module _ (s : Start) (d : Interval) (psi : Anomaly) (double : Double psi.0) where
  abbrev results : Results
  results = results_of (arc_of s d psi)

  by_settled : (a : Answering) (n : ℕ) → Settled a n results → refusal_of a ≡ 0 → Words a
  by_settled a n (inl e) z =
      let same : figures_in a ≡ results = ap figures_in e in
      let is-psi : (figures_in a).psi ≡ psi = ap (λ (r : Results). r.psi) same ∙ psi_of_lem s d psi in
      record {
        anomaly = subst (λ (x : Anomaly). to_bits binary64 x.0 < 2 ^ 64) (sym is-psi) (to_bits-lt binary64 psi.0 double);
        nine = subst (λ (r : Results). Below (2 ^ 64) (nine_words r)) (sym same) (arc_below s d psi);
      }
  by_settled a n (inr (inl e)) z = absurd (omega (arith, z, ap refusal_of e))
  by_settled a n (inr (inr e)) z = absurd (omega (arith, z, ap refusal_of e))

  found_words : (n : ℕ) → refusal_of (answer_from (reached_found s d (found_with psi n))) ≡ 0 → Words (answer_from (reached_found s d (found_with psi n)))
  unfolding reached_found
  found_words n z = let arc = arc_of s d psi in by_settled (ended_answer n (ended_of arc)) n (settled n (ended_of arc) (results_of arc) (seven_or_eight arc)) z

module _ (pr : Proposing) (given : List ℕ) (s : Searches interval_of given) where
  abbrev i : Initial
  i = s.start.initial

  abbrev tau : Seconds
  tau = searched_in s

  from_found : (x : Finding) → found_by pr i tau ≡ x → refusal_of (answer_from (reached_found s.start (interval_in s) x)) ≡ 0 →
      Words (answer_from (reached_found s.start (interval_in s) x))
  unfolding reached_found
  from_found (Ok found) e z =
      let psi = found.psi in
      let f = finds_right (pr i tau) i tau (first_step_of i tau) psi found.points e in
      let double : Double psi.0 = subst (λ (x : Anomaly). Double x.0) f.same (of_bits-fits binary64 (to_bits binary64 psi.0)) in
      found_words s.start (interval_in s) psi double found.points z
  from_found (Err refused) e z = absurd (omega (arith, z, number_bounds refused.refusal))

  answer_words_lem : refusal_of (propagate_by interval_of pr given) ≡ 0 → Words (propagate_by interval_of pr given)
  unfolding propagate_by
  answer_words_lem z =
      let e = reaches interval_of pr given s refl in
      subst (λ (r : Reaching). Words (answer_from r)) (sym e) (from_found (found_by pr i tau) refl (ap (λ (r : Reaching). refusal_of (answer_from r)) (sym e) ∙ z))

pub our_row_is : OurRowIs
our_row_is pr given h =
    let a = propagate_by interval_of pr given in
    let x = (accepts_exactly given (anomaly_in a) (nine_in a)).only (accepts_own pr given h.not_refused) in
    let w = answer_words_lem pr given x.searches h.not_refused in
    record {
      eight_given = h.eight;
      nine_figures = nine_length (figures_in a);
      are_words = below_append (2 ^ 64) given (anomaly_in a ∷ nine_in a) h.are_words (w.anomaly, w.nine);
    }

-- ---- A file of them.
are_rows : (rows : List Row) → AllOf Ours rows → AreRows rows
are_rows [] h = tt
are_rows (r ∷ rows) h = let o = h.0 in (subst IsRow (sym o.same) (our_row_is o.by o.input o.answered), are_rows rows h.1)

all_ones : (rows : List Row) → AllOf Ours rows → map verdict_on rows ≡ replicate (length rows) 1
all_ones [] h = refl
all_ones (r ∷ rows) h =
    let o = h.0 in
    ap₂ ◌∷◌ (ap verdict_on o.same ∙ our_rows_pass o.by o.input o.answered.not_refused) (all_ones rows h.1)

pub our_files_pass : OurFilesPass
our_files_pass rows ours few run room =
    let j = judges_rows rows (are_rows rows ours) few run in
    record {
      answer = j.answer room;
      verdicts = j.verdicts room ∙ ap (λ (l : List ℕ). l ++ drop (length rows) run) (all_ones rows ours);
    }
