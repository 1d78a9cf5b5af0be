-- A row is accepted exactly where document 02 says so; our own are; and what our own call makes of the input of an accepted one.
use mathlib.Core.Path.{◌≡◌, refl, sym, ◌∙◌, ap, subst}
use mathlib.Core.Logic.{◌⊎◌, inl, inr, ⊎_elim}
use mathlib.Core.Bool.{Bool, true, false, not, true≢false}
use mathlib.Core.List.{List}
use Prim.Native.Nat.{ℕ, ◌≤◌}
use native.Mathlib.Omega.{arith}
use lib.Ieee.{binary64, to_bits}
use Rattle.std.specs.Prelude.{Option, Result, Ok, Err}
use Rattle.bits.specs.Choice.{pick}
use Rattle.bits.specs.declared.refusal.Refusal.{Refusal}
use Rattle.bits.specs.declared.refusal.Refusal.TheVariants.{StartNotFinite}
use Rattle.bits.proofs.RefusalLaws.{number_bounds}
use Rattle.bits.specs.Arithmetic.{is_finite}
use Rattle.bits.proofs.RunLaws.{same_words_lem, words_same}
use Rattle.series.specs.declared.figures.Anomaly.{Anomaly}
use Rattle.search.specs.Search.{Finding, found_with, Proposing}
use Rattle.search.specs.declared.figures.Found.{Found}
use Rattle.search_check.specs.Right.{is_right, Right}
use Rattle.search_check.proofs.RightLaws.{right_exactly, finds_right}
use Rattle.states_revolutions.specs.Revolutions.{interval_of}
use Rattle.states_revolutions.specs.declared.figures.WholeInterval.{WholeInterval}
use Rattle.states_revolutions.specs.declared.figures.Interval.{Interval}
use Rattle.states_revolutions.specs.declared.figures.Revolution.{Revolution}
use Rattle.states_start.specs.Given.{read_of}
use Rattle.states_start.specs.Initial.{begun_of, first_step_of}
use Rattle.states_start.specs.declared.figures.Orbit.{Orbit}
use Rattle.states_start.specs.declared.figures.Start.{Start}
use Rattle.states_start.specs.declared.figures.Given.{Given}
use Rattle.states_start.specs.declared.figures.Begun.{Begun}
use Rattle.states_arcs.specs.Results.{arc_of, figures_of, ended_of}
use Rattle.states_arcs.specs.Results as arcs
use Rattle.states_arcs.specs.declared.figures.Arc.{Arc}
use Rattle.states_arcs.specs.declared.figures.Results.{Results}
use Rattle.states_arcs.proofs.EndLaws.{seven_or_eight}
use Rattle.states.specs.Call.{Finder, Reaching, Answering, searching, taking, refused, refusal_of, results_of, reached_found, reached_over_by, reached_from_by, reached_begun_by, reached_orbit_by, reached_read_by, reached_words_by, ended_answer, answer_from, propagate_by, answer_words}
use Rattle.states.specs.CallPromise.{Searches, interval_in, searched_in}
use Rattle.states.proofs.CallPromise.{FiveOrSix, five_or_six, found_by, leads, reaches, SevenOrEight, Settled, settled, psi_of_lem}
use Rattle.states_check.specs.Row.{nine_words, proposed, ends_with, accepts_at, accepts_from, accepts}
use Rattle.states_check.specs.RowPromise.{Acceptable, AcceptsExactly, anomaly_in, nine_in, AcceptsOwn, OwnWords, NotBeforeSearch}

-- ---- Whether an anomaly is searched for or given, an arc is reached where the input gets as far as the search and the anomaly is found; otherwise the call is refused.
record ArcAt (find : Finder) (given : List ℕ) (arc : Arc) (n : ℕ) : Type 0 where
  searches : Searches interval_of given
  psi : Anomaly
  found : find searches.start.initial (searched_in searches) (first_step_of searches.start.initial (searched_in searches)) ≡ found_with psi n
  same : arc ≡ arc_of searches.start (interval_in searches) psi

abbrev Comes : Finder → List ℕ → Reaching → Type 0
Comes find given (Ok x) = ArcAt find given x.arc x.points
Comes find given (Err r) = Unit {0}

module _ (find : Finder) (given : List ℕ) where
  from_found : (s : Searches interval_of given) (x : Finding) → find s.start.initial (searched_in s) (first_step_of s.start.initial (searched_in s)) ≡ x
      → Comes find given (reached_found s.start (interval_in s) x)
  unfolding reached_found
  from_found s (Ok x) f = record { searches = s; psi = x.psi; found = f; same = refl }
  from_found s (Err r) f = tt

  module _ (o : Orbit) (whole : WholeInterval) (er : read_of given ≡ Ok (record { orbit = o; whole = whole })) where
    from_start : (s : Start) (c : Option Revolution) → begun_of o ≡ Ok (record { start = s; course = c }) → Comes find given (reached_from_by interval_of find s c whole)
    unfolding reached_from_by reached_over_by
    from_start s c eb = by_step (is_finite (first_step_of s.initial (interval_of c whole).searched).0) refl
      where
        by_step : (b : Bool) → is_finite (first_step_of s.initial (interval_of c whole).searched).0 ≡ b
            → Comes find given (pick (not b) (refused StartNotFinite 0) (reached_found s (interval_of c whole) (find s.initial (interval_of c whole).searched (first_step_of s.initial (interval_of c whole).searched))))
        by_step true e = from_found (record { orbit = o; whole = whole; start = s; course = c; reads = er; begins = eb; steps = e }) _ refl
        by_step false e = tt

    from_begun : (b : Result Begun Refusal) → begun_of o ≡ b → Comes find given (reached_begun_by interval_of find b whole)
    from_begun (Ok b) eb = from_start b.start b.course eb
    from_begun (Err k) eb = tt

    from_orbit : Comes find given (reached_orbit_by interval_of find o whole)
    unfolding reached_orbit_by
    from_orbit = from_begun (begun_of o) refl

  from_read : (r : Result Given Refusal) → read_of given ≡ r → Comes find given (reached_read_by interval_of find r)
  from_read (Ok g) er = from_orbit g.orbit g.whole er
  from_read (Err k) er = tt

  comes : Comes find given (reached_words_by interval_of find given)
  unfolding reached_words_by
  comes = from_read (read_of given) refl

-- The start and the interval of an arc are those that it was made of.
start_of : (s : Start) (d : Interval) (psi : Anomaly) → (arc_of s d psi).start ≡ s
unfolding arc_of
start_of s d psi = refl

interval_of_lem : (s : Start) (d : Interval) (psi : Anomaly) → (arc_of s d psi).interval ≡ d
unfolding arc_of
interval_of_lem s d psi = refl

-- ---- Exactly so.
module _ (given : List ℕ) (anomaly : ℕ) (nine : List ℕ) where
  module _ (s : Searches interval_of given) where
    abbrev arc : Arc
    arc = arc_of s.start (interval_in s) (proposed anomaly)

    abbrev right : Bool
    right = is_right s.start.initial (searched_in s) anomaly

    at_arc : accepts_at arc anomaly nine ≡ pick right (ends_with (ended_of arc) nine) false
    unfolding accepts_at arc_of
    at_arc = refl

    by_end : (e : Result Results Refusal) → ended_of arc ≡ e → right ≡ true → ends_with e nine ≡ true → Acceptable given anomaly nine
    by_end (Ok r) e t h =
        record { searches = s; right = (right_exactly s.start.initial (searched_in s) anomaly).only t; results = r; ends = e; figures = same_words_lem (nine_words r) nine h }
    by_end (Err k) e t h = absurd (true≢false (sym h))

    by_right : (b : Bool) → right ≡ b → pick b (ends_with (ended_of arc) nine) false ≡ true → Acceptable given anomaly nine
    by_right true e h = by_end (ended_of arc) refl e h
    by_right false e h = absurd (true≢false (sym h))

  found_once : {f g : Found} → ◌≡◌ {A = Finding} (Ok f) (Ok g) → f ≡ g
  found_once e = cc

  only_from : (x : Reaching) → Comes (taking (proposed anomaly)) given x → accepts_from x anomaly nine ≡ true → Acceptable given anomaly nine
  only_from (Ok x) c h =
      let s = c.searches in
      let given-psi : proposed anomaly ≡ c.psi = ap (λ (f : Found). f.psi) (found_once c.found) in
      let same : x.arc ≡ arc_of s.start (interval_in s) (proposed anomaly) = c.same ∙ ap (arc_of s.start (interval_in s)) (sym given-psi) in
      by_right s (right s) refl (sym (at_arc s) ∙ ap (λ (a : Arc). accepts_at a anomaly nine) (sym same) ∙ h)
  only_from (Err r) c h = absurd (true≢false (sym h))

  only : accepts given anomaly nine ≡ true → Acceptable given anomaly nine
  unfolding accepts
  only h = only_from (reached_words_by interval_of (taking (proposed anomaly)) given) (comes (taking (proposed anomaly)) given) h

  all : Acceptable given anomaly nine → accepts given anomaly nine ≡ true
  unfolding accepts reached_found
  all x =
      let s = x.searches in
      ap (λ (r : Reaching). accepts_from r anomaly nine) (leads interval_of (taking (proposed anomaly)) given s refl)
      ∙ at_arc s ∙ rw ((right_exactly s.start.initial (searched_in s) anomaly).all x.right, x.ends) (words_same x.figures)

pub accepts_exactly : AcceptsExactly
accepts_exactly given anomaly nine = record { only = only given anomaly nine; all = all given anomaly nine }

-- ---- Our own rows.

-- An arc whose answer has refusal 0 has its results, and they are the answer's.
not_refused : (arc : Arc) (n : ℕ) → refusal_of (ended_answer n (ended_of arc)) ≡ 0 → ended_of arc ≡ Ok (arcs.results_of arc)
unfolding ended_answer
not_refused arc n z = by (seven_or_eight arc)
  where
    by : SevenOrEight (ended_of arc) (arcs.results_of arc) → ended_of arc ≡ Ok (arcs.results_of arc)
    by (inl e) = e
    by (inr (inl e)) = absurd (omega (arith, z, ap (λ (x : Result Results Refusal). refusal_of (ended_answer n x)) e))
    by (inr (inr e)) = absurd (omega (arith, z, ap (λ (x : Result Results Refusal). refusal_of (ended_answer n x)) e))

its_results : (arc : Arc) (n : ℕ) → refusal_of (ended_answer n (ended_of arc)) ≡ 0 → results_of (ended_answer n (ended_of arc)) ≡ arcs.results_of arc
unfolding ended_answer
its_results arc n z = ap (λ (x : Result Results Refusal). results_of (ended_answer n x)) (not_refused arc n z)

module _ (pr : Proposing) (given : List ℕ) where
  own_from : (x : Reaching) → Comes (searching pr) given x → refusal_of (answer_from x) ≡ 0 → accepts given (anomaly_in (answer_from x)) (nine_in (answer_from x)) ≡ true
  own_from (Err r) c z = absurd (omega (arith, z, number_bounds r.refusal))
  own_from (Ok x) c z =
      let arc = x.arc in
      let n = x.points in
      let a = ended_answer n (ended_of arc) in
      let s = c.searches in
      let i = s.start.initial in
      let tau = searched_in s in
      let results : results_of a ≡ arcs.results_of arc = its_results arc n z in
      let psi : (results_of a).psi ≡ c.psi = ap (λ (r : Results). r.psi) (results ∙ ap arcs.results_of c.same) ∙ psi_of_lem s.start (interval_in s) c.psi in
      let right = finds_right (pr i tau) i tau (first_step_of i tau) c.psi n c.found in
      let word : to_bits binary64 c.psi.0 ≡ anomaly_in a = ap (λ (x : Anomaly). to_bits binary64 x.0) (sym psi) in
      let same : c.psi ≡ proposed (anomaly_in a) = sym right.same ∙ ap proposed word in
      (accepts_exactly given (anomaly_in a) (nine_in a)).all
      (record {
        searches = s;
        right = subst (Right i tau) word right.right;
        results = results_of a;
        ends =
            ap ended_of (sym (c.same ∙ ap (arc_of s.start (interval_in s)) same))
            ∙ not_refused arc n z ∙ ap (λ (r : Results). Ok r) (sym results);
        figures = refl;
      })

pub accepts_own : AcceptsOwn
unfolding propagate_by
accepts_own pr given z = own_from pr given (reached_words_by interval_of (searching pr) given) (comes (searching pr) given) z

pub own_words : OwnWords
unfolding answer_words figures_of
own_words a = record { anomaly = refl; nine = refl }

-- ---- Beside our own call.
module _ (s : Start) (d : Interval) where
  abbrev AfterSearch : Answering → Type 0
  AfterSearch a = (refusal_of a ≡ 0) ⊎ ((5 ≤ refusal_of a) × (refusal_of a ≤ 8))

  settled_after : (a : Answering) (n : ℕ) (r : Results) → Settled a n r → AfterSearch a
  settled_after a n r (inl e) = inl (ap refusal_of e)
  settled_after a n r (inr (inl e)) = let k = ap refusal_of e in inr (omega arith, omega arith)
  settled_after a n r (inr (inr e)) = let k = ap refusal_of e in inr (omega arith, omega arith)

  found_after : (x : Finding) → FiveOrSix x → AfterSearch (answer_from (reached_found s d x))
  unfolding reached_found
  found_after (Ok f) h =
      let arc = arc_of s d f.psi in
      settled_after (ended_answer f.points (ended_of arc)) f.points (arcs.results_of arc) (settled f.points (ended_of arc) (arcs.results_of arc) (seven_or_eight arc))
  found_after (Err r) h = ⊎_elim (λ e. inr (omega arith, omega arith)) (λ e. inr (omega arith, omega arith)) h

ended_answers : (n : ℕ) (r : Results) (nine : List ℕ) → nine_words r ≡ nine → (refusal_of (ended_answer n (Ok r)) ≡ 0) × (nine_in (ended_answer n (Ok r)) ≡ nine)
unfolding ended_answer
ended_answers n r nine e = (refl, e)

pub not_before_search : NotBeforeSearch
unfolding propagate_by reached_found
not_before_search pr given anomaly nine x =
    let s = x.searches in
    record {
      after_search = rw (reaches interval_of pr given s refl)
          (found_after s.start (interval_in s) (found_by pr s.start.initial (searched_in s))
          (five_or_six pr s.start.initial (searched_in s) (first_step_of s.start.initial (searched_in s))));
      at_anomaly = λ n f. rw (reaches interval_of pr given s f, x.ends) (ended_answers n x.results nine x.figures);
    }
