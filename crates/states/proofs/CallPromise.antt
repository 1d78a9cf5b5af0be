-- The calls keep their demands: what the search promises, carried through results and partials.
use mathlib.Core.Path.{◌≡◌, refl, sym, ◌∙◌, ap, subst}
use mathlib.Core.Logic.{◌⊎◌, inl, inr, ⊎_elim}
use mathlib.Core.Bool.{Bool, true, false, not}
use mathlib.Core.List.{List}
use Prim.Native.Nat.{ℕ}
use native.Mathlib.Omega.{arith}
use borrow.Author.Tests.{eq-eqb}
use lib.Dec.{eqb}
use lib.ListN.{length}
use lib.Ieee.{Float, nan, inf, fin, mul, div, eq, of_bits}
use Rattle.std.specs.Prelude.{Option, None, Result, Ok, Err}
use Rattle.bits.specs.Choice.{pick}
use Rattle.bits.specs.declared.refusal.Refusal.{Refusal}
use Rattle.bits.specs.declared.refusal.Refusal.TheVariants.{PartialsLength, StartNotFinite, AllShort, Unreadable, RadiusNotPositive, EndNotFinite}
use Rattle.bits.specs.Arithmetic.{◌⊗◌, ◌⊘◌, n0, is_finite}
use Rattle.bits.specs.Words.{place_of, words_of}
use Rattle.bits.specs.Refusal.{number_of}
use Rattle.search.specs.Search.{Finding, Proposing}
use Rattle.series.specs.declared.figures.Anomaly.{Anomaly}
use Rattle.series.specs.declared.figures.Seconds.{Seconds}
use Rattle.search_points.specs.Trial.{anomaly_at}
use Rattle.search.specs.SearchPromise.{used_in, SaysRefused, Says, Promise, Demand3}
use Rattle.search_rule.specs.Rule.{Proposal}
use Rattle.search.proofs.Instance.{promise_by, demand3_by}
use Rattle.states_arcs.specs.Results.{arc_of, ended_of}
use Rattle.states_arcs.specs.Results as arcs
use Rattle.states_arcs.specs.declared.figures.Arc.{Arc}
use Rattle.states_arcs.specs.declared.figures.Results.{Results}
use Rattle.states_partials.specs.Entries.{entries_of}
use Rattle.states_arcs.proofs.EndLaws.{seven_or_eight}
use Rattle.states_partials.proofs.EntryLaws.{zero_or_eight}
use Rattle.states_partials.specs.Partials.{partials_refusal, lent_after}
use Rattle.states_partials.specs.Partials.{lent_by as lent_by_result}
use Rattle.search_points.specs.declared.figures.Initial.{Initial}
use Rattle.states_revolutions.specs.Revolutions.{interval_of}
use Rattle.states_revolutions.proofs.RevolutionLaws.{nothing_off}
use Rattle.states_revolutions.specs.declared.figures.WholeInterval.{WholeInterval}
use Rattle.states_revolutions.specs.declared.figures.Interval.{Interval}
use Rattle.states_revolutions.specs.declared.figures.Revolution.{Revolution}
use Rattle.states_start.specs.Given.{read_of}
use Rattle.states_start.specs.Initial.{begun_of, two_to_minus20, first_step_of}
use Rattle.states_start.specs.declared.figures.Orbit.{Orbit}
use Rattle.states_start.specs.declared.figures.Given.{Given}
use Rattle.states_start.specs.declared.figures.Begun.{Begun}
use Rattle.states_start.specs.declared.figures.Start.{Start}
use Rattle.states.specs.Call.{Finder, searching, Parting, wholly, Reaching, Answering, no_results, refused, answered, refusal_of, points_of, results_of, reached_found, reached_over_by, reached_from_by, reached_begun_by, reached_orbit_by, reached_read_by, reached_words_by, ended_answer, answer_from, propagate_by}
use Rattle.states.specs.WithPartials.{written, with_partials, ended_with, lent_ended, partials_from, lent_from, partials_by, lent_by}
use Rattle.states.specs.CallPromise.{ZerosOrAnswer, UnchangedOrAnswer, Searches, interval_in, searched_in, Ending, EndsWith, EndsWithPartials, Reports, FindsAnomaly, CountsPoints, SearchesFinite, AtOnce, NothingSearched, Else01Stands}

-- ---- Demand 1

-- What is refused has no figures, by the type of an answer.
clean : (a : Answering) → (refusal_of a ≡ 0) ⊎ (results_of a ≡ no_results)
clean (Ok a) = inl refl
clean (Err r) = inr refl

pub zeros_or_answer : ZerosOrAnswer
zeros_or_answer pt pr words = clean (propagate_by pt pr words)

-- With the lent run beside it.
abbrev Kept : Answering → (run after : List ℕ) → Type 0
Kept a run after = (refusal_of a ≡ 0) ⊎ ((results_of a ≡ no_results) × (after ≡ run))

written_kept : (w : Result (Unit {0}) Refusal) (arc : Arc) (n : ℕ) (r : Results) (run : List ℕ) → Kept (written n r w) run (lent_by_result w arc run)
written_kept (Ok u) arc n r run = inl refl
written_kept (Err k) arc n r run = inr (refl, refl)

ended_kept : (arc : Arc) (n : ℕ) (e : Result Results Refusal) (run : List ℕ) → Kept (ended_with arc n e run) run (lent_ended arc e run)
unfolding with_partials lent_after
ended_kept arc n (Ok r) run = written_kept (partials_refusal arc run) arc n r run
ended_kept arc n (Err k) run = inr (refl, refl)

by_kept : (x : Reaching) (run : List ℕ) → Kept (partials_from x run) run (lent_from x run)
by_kept (Ok x) run = ended_kept x.arc x.points (ended_of x.arc) run
by_kept (Err r) run = inr (refl, refl)

length-kept : (t : Bool) (x : Reaching) (run : List ℕ) → Kept (pick t (refused PartialsLength 0) (partials_from x run)) run (pick t run (lent_from x run))
length-kept true x run = inr (refl, refl)
length-kept false x run = by_kept x run

pub unchanged_or_answer : UnchangedOrAnswer
unfolding partials_by lent_by
unchanged_or_answer pt pr words run = length-kept (not (eqb (length run) 36)) (reached_words_by pt (searching pr) words) run

-- ---- Refusals 5 and 6: a search is refused by no other.
said_so : (pr : Proposal) (i : Initial) (tau : Seconds) (first : ℕ) (k : Refusal) → SaysRefused pr i tau first k → (number_of k ≡ 5) ⊎ (number_of k ≡ 6)
said_so pr i tau first AllShort s = inl refl
said_so pr i tau first Unreadable s = inr refl
said_so pr i tau first _ s = absurd s

abbrev pub FiveOrSix : Finding → Type 0
FiveOrSix (Ok f) = Unit {0}
FiveOrSix (Err r) = (number_of r.refusal ≡ 5) ⊎ (number_of r.refusal ≡ 6)

pub five_or_six : (pr : Proposing) (i : Initial) (tau : Seconds) (h : Anomaly) → FiveOrSix (searching pr i tau h)
five_or_six pr i tau h = go (eq tau.0 n0) refl
  where
    promise : Promise (pr i tau) i tau h (searching pr i tau h)
    promise = promise_by (pr i tau) i tau h

    said : (f : Finding) → Says (pr i tau) i tau (place_of h.0) f → FiveOrSix f
    said (Ok f) x = tt
    said (Err r) x = said_so (pr i tau) i tau (place_of h.0) r.refusal x

    go : (zero : Bool) → eq tau.0 n0 ≡ zero → FiveOrSix (searching pr i tau h)
    go true z = subst FiveOrSix (sym (promise.no_interval z)) tt
    go false z = said _ (promise.interval z).says

-- ---- Demand 3

-- What the search of an interval ends with.
abbrev pub found_by : Proposing → Initial → Seconds → Finding
found_by pr i tau = searching pr i tau (first_step_of i tau)

-- Whether the anomaly is searched for or given, the call goes on from what is found.
pub leads : (pt : Parting) (find : Finder) (words : List ℕ) (s : Searches pt words) {x : Finding} →
    find s.start.initial (searched_in s) (first_step_of s.start.initial (searched_in s)) ≡ x → reached_words_by pt find words ≡ reached_found s.start (interval_in s) x
unfolding reached_words_by reached_orbit_by reached_from_by reached_over_by
leads pt find words s e =
    let start = s.start in
    let d = interval_in s in
    ap (reached_read_by pt find) s.reads ∙ ap (λ (b : Result Begun Refusal). reached_begun_by pt find b s.whole) s.begins
    ∙ ap (λ (t : Bool). pick (not t) (refused StartNotFinite 0) (reached_found start d (find start.initial d.searched (first_step_of start.initial d.searched)))) s.steps
    ∙ ap (reached_found start d) e

pub reaches : (pt : Parting) (pr : Proposing) (words : List ℕ) (s : Searches pt words) {x : Finding} →
    found_by pr s.start.initial (searched_in s) ≡ x → reached_words_by pt (searching pr) words ≡ reached_found s.start (interval_in s) x
reaches pt pr words s e = leads pt (searching pr) words s e

-- The results of an arc, or 7 or 8.
abbrev pub SevenOrEight : Result Results Refusal → Results → Type 0
SevenOrEight e r = (e ≡ Ok r) ⊎ ((e ≡ Err RadiusNotPositive) ⊎ (e ≡ Err EndNotFinite))

-- The same of an answer.
abbrev pub Settled : Answering → ℕ → Results → Type 0
Settled a n r = (a ≡ answered n r) ⊎ ((a ≡ refused RadiusNotPositive n) ⊎ (a ≡ refused EndNotFinite n))

-- What an end leads to, without partials
module _ (n : ℕ) (e : Result Results Refusal) where
  refuses : (k : Refusal) → e ≡ Err k → ended_answer n e ≡ refused k n
  unfolding ended_answer
  refuses k p = ap (ended_answer n) p

  answers : (r : Results) → e ≡ Ok r → ended_answer n e ≡ answered n r
  unfolding ended_answer
  answers r p = ap (ended_answer n) p

-- and with them: by the partials of this arc.
module _ (arc : Arc) (n : ℕ) (run : List ℕ) where
  by_partials : (r : Results) (k : Refusal) → partials_refusal arc run ≡ Err k → (with_partials arc n r run ≡ refused k n) × (lent_after arc run ≡ run)
  unfolding with_partials lent_after
  by_partials r k z = (rw z, rw z)

  with_them : (r : Results) → partials_refusal arc run ≡ Ok tt → (with_partials arc n r run ≡ answered n r) × (lent_after arc run ≡ words_of (entries_of arc))
  unfolding with_partials lent_after
  with_them r z = (rw z, rw z)

module _ (arc : Arc) (n : ℕ) (e : Result Results Refusal) (run : List ℕ) where
  -- Both, the answer and the lent run.
  abbrev Leads : Answering → List ℕ → Type 0
  Leads a after = (ended_with arc n e run ≡ a) × (lent_ended arc e run ≡ after)

  at_end : {x : Result Results Refusal} → e ≡ x → Leads (ended_with arc n x run) (lent_ended arc x run)
  at_end p = (ap (λ (y : Result Results Refusal). ended_with arc n y run) p, ap (λ (y : Result Results Refusal). lent_ended arc y run) p)

  refuses_with : (k : Refusal) → e ≡ Err k → Leads (refused k n) run
  refuses_with k p = at_end p

  partials_refuse : (r : Results) (k : Refusal) → e ≡ Ok r → partials_refusal arc run ≡ Err k → Leads (refused k n) run
  partials_refuse r k p z = let w = by_partials arc n run r k z in ((at_end p).0 ∙ w.0, (at_end p).1 ∙ w.1)

  answers_with : (r : Results) → e ≡ Ok r → partials_refusal arc run ≡ Ok tt → Leads (answered n r) (words_of (entries_of arc))
  answers_with r p z = let w = with_them arc n run r z in ((at_end p).0 ∙ w.0, (at_end p).1 ∙ w.1)

ends_with : (arc : Arc) (n : ℕ) → EndsWith arc n (ended_answer n (ended_of arc))
ends_with arc n = record { refuses = refuses n (ended_of arc); answers = answers n (ended_of arc) }

ends_with_partials : (arc : Arc) (n : ℕ) (run : List ℕ) → EndsWithPartials run (lent_ended arc (ended_of arc) run) arc n (ended_with arc n (ended_of arc) run)
ends_with_partials arc n run =
    record {
      refuses = refuses_with arc n (ended_of arc) run;
      refuses_partials = partials_refuse arc n (ended_of arc) run;
      answers = answers_with arc n (ended_of arc) run;
    }

pub settled : (n : ℕ) (e : Result Results Refusal) (r : Results) → SevenOrEight e r → Settled (ended_answer n e) n r
settled n e r (inl p) = inl (answers n e r p)
settled n e r (inr (inl p)) = inr (inl (refuses n e RadiusNotPositive p))
settled n e r (inr (inr p)) = inr (inr (refuses n e EndNotFinite p))

pub settled_with : (arc : Arc) (n : ℕ) (e : Result Results Refusal) (r : Results) (run : List ℕ) → length run ≡ 36 → SevenOrEight e r → Settled (ended_with arc n e run) n r
settled_with arc n e r run h (inl p) =
    ⊎_elim (λ z. inl (answers_with arc n e run r p z).0) (λ z. inr (inr (partials_refuse arc n e run r EndNotFinite p z).0)) (zero_or_eight arc run h)
settled_with arc n e r run h (inr (inl p)) = inr (inl (refuses_with arc n e run RadiusNotPositive p).0)
settled_with arc n e r run h (inr (inr p)) = inr (inr (refuses_with arc n e run EndNotFinite p).0)

pub psi_of_lem : (s : Start) (d : Interval) (psi : Anomaly) → (arcs.results_of (arc_of s d psi)).psi ≡ psi
unfolding arcs.results_of arc_of
psi_of_lem s d psi = refl

-- A settled answer reports the points, and its ψ is that of the results.
settled_points : (a : Answering) (n : ℕ) (r : Results) → Settled a n r → points_of a ≡ n
settled_points a n r (inl e) = ap points_of e
settled_points a n r (inr (inl e)) = ap points_of e
settled_points a n r (inr (inr e)) = ap points_of e

settled_psi : (a : Answering) (n : ℕ) (r : Results) → Settled a n r → refusal_of a ≡ 0 → (results_of a).psi ≡ r.psi
settled_psi a n r (inl e) z = ap (λ (x : Answering). (results_of x).psi) e
settled_psi a n r (inr (inl e)) z = absurd (omega (arith, ap refusal_of e))
settled_psi a n r (inr (inr e)) z = absurd (omega (arith, ap refusal_of e))

module _ (pr : Proposing) (s : Start) (d : Interval) where
  reports : {f : Finding} {a : Answering} (Ends : Ending) (g : Demand3 (pr s.initial d.searched) s.initial d.searched (first_step_of s.initial d.searched) f) →
      let arc = arc_of s d (anomaly_at d.searched g.place) in
      Settled a g.points (arcs.results_of arc) → Ends arc g.points a → Reports pr s d Ends a
  reports {a = a} Ends g so ends =
      let psi = anomaly_at d.searched g.place in
      let r = arcs.results_of (arc_of s d psi) in
      record {
        at = record { place = g.place; points = g.points; anomaly = g.anomaly; used = g.used; at_most = g.at_most; answer = so; ends = ends };
        reported = settled_points a g.points r so;
        psi = λ z. settled_psi a g.points r so z ∙ psi_of_lem s d psi;
      }

pub finds_anomaly : FindsAnomaly
unfolding reached_found propagate_by partials_by lent_by
finds_anomaly pt pr words s nonzero findable =
    let tau = searched_in s in
    let i = s.start.initial in
    let g = demand3_by (pr i tau) i tau (first_step_of i tau) nonzero findable in
    let arc = arc_of s.start (interval_in s) (anomaly_at tau g.place) in
    let n = g.points in
    let e = seven_or_eight arc in
    let x : reached_words_by pt (searching pr) words ≡ Ok (record { arc = arc; points = n }) = reaches pt pr words s g.found in (
      reports pr s.start (interval_in s) EndsWith g (rw x (settled n (ended_of arc) (arcs.results_of arc) e)) (rw x (ends_with arc n)),
      λ run h.
          let t = eq-eqb (length run) 36 h in
          reports pr s.start (interval_in s) (EndsWithPartials run (lent_by pt pr words run)) g
          (rw (t, x) (settled_with arc n (ended_of arc) (arcs.results_of arc) run h e))
          (rw (t, x) (ends_with_partials arc n run)),
    )

-- ---- The points of both calls are those of the search, however they end.
module _ (s : Start) (d : Interval) where
  found_points : (x : Finding) → points_of (answer_from (reached_found s d x)) ≡ used_in x
  unfolding reached_found
  found_points (Ok f) =
      let arc = arc_of s d f.psi in
      let r = arcs.results_of arc in
      settled_points (ended_answer f.points (ended_of arc)) f.points r (settled f.points (ended_of arc) r (seven_or_eight arc))
  found_points (Err r) = refl

  found_with_points : (x : Finding) (run : List ℕ) → length run ≡ 36 → points_of (partials_from (reached_found s d x) run) ≡ used_in x
  unfolding reached_found
  found_with_points (Ok f) run h =
      let arc = arc_of s d f.psi in
      let r = arcs.results_of arc in
      settled_points (ended_with arc f.points (ended_of arc) run) f.points r (settled_with arc f.points (ended_of arc) r run h (seven_or_eight arc))
  found_with_points (Err r) run h = refl

pub counts_points : CountsPoints
unfolding propagate_by partials_by
counts_points pt pr words s nonzero =
    let tau = searched_in s in
    let i = s.start.initial in
    let d = interval_in s in
    let x = found_by pr i tau in
    let e : reached_words_by pt (searching pr) words ≡ reached_found s.start d x = reaches pt pr words s refl in
    let counted = ((promise_by (pr i tau) i tau (first_step_of i tau)).interval nonzero).counts in (
      ap (λ (r : Reaching). points_of (answer_from r)) e ∙ found_points s.start d x ∙ counted,
      λ run h. rw (eq-eqb (length run) 36 h) (ap (λ (r : Reaching). points_of (partials_from r run)) e ∙ found_with_points s.start d x run h ∙ counted),
    )

-- ---- T-04

-- An interval that is zero once its revolutions are off is not searched.
pub nothing_searched : NothingSearched
unfolding reached_found propagate_by partials_by
nothing_searched pt pr words s zero =
    let tau = searched_in s in
    let i = s.start.initial in
    let psi : Anomaly = record { 0 = n0 } in
    let arc = arc_of s.start (interval_in s) psi in
    let r = arcs.results_of arc in
    let x : reached_words_by pt (searching pr) words ≡ Ok (record { arc = arc; points = 0 }) = reaches pt pr words s ((promise_by (pr i tau) i tau (first_step_of i tau)).no_interval zero) in
    let at_once : (a : Answering) → Settled a 0 r → AtOnce a =
    λ a so. (settled_points a 0 r so, λ z. settled_psi a 0 r so z ∙ psi_of_lem s.start (interval_in s) psi) in (
      at_once (propagate_by pt pr words) (rw x (settled 0 (ended_of arc) r (seven_or_eight arc))),
      λ run h. at_once (partials_by pt pr words run) (rw (eq-eqb (length run) 36 h, x) (settled_with arc 0 (ended_of arc) r run h (seven_or_eight arc))),
    )

-- An interval that is not finite has no finite H, whatever r0 is.
beyond_step : (i : Initial) (x : Float) → is_finite (first_step_of i (record { 0 = x })).0 ≡ true → is_finite x ≡ true
unfolding first_step_of mul div of_bits
beyond_step i nan h = h
beyond_step i (inf t) h = go i.r0 h
  where
    go : (r : Float) → is_finite ((inf false ⊘ r) ⊗ two_to_minus20) ≡ true → false ≡ true
    go nan e = e
    go (inf u) e = e
    go (fin u m k) e = e
beyond_step i (fin t m e) h = refl

pub searches_finite : SearchesFinite
searches_finite pt words s = beyond_step s.start.initial (searched_in s).0 s.steps

-- Where nothing comes off, to take revolutions off is to take nothing off.
module _ (find : Finder) where
  from_begun : (b : Result Begun Refusal) (whole : WholeInterval)
      → ((s : Start) (c : Option Revolution) → b ≡ Ok (record { start = s; course = c }) → (interval_of c whole).off ≡ None)
      → reached_begun_by interval_of find b whole ≡ reached_begun_by wholly find b whole
  unfolding reached_from_by
  from_begun (Err r) whole none = refl
  from_begun (Ok b) whole none = ap (reached_over_by find b.start) (nothing_off b.course whole (none b.start b.course refl))

  from_read : (r : Result Given Refusal)
      → ((o : Orbit) (whole : WholeInterval) (s : Start) (c : Option Revolution) →
      r ≡ Ok (record { orbit = o; whole = whole }) → begun_of o ≡ Ok (record { start = s; course = c }) → (interval_of c whole).off ≡ None)
      → reached_read_by interval_of find r ≡ reached_read_by wholly find r
  unfolding reached_orbit_by
  from_read (Err r) none = refl
  from_read (Ok g) none = from_begun (begun_of g.orbit) g.whole (λ s c e. none g.orbit g.whole s c refl e)

pub else_01_stands : Else01Stands
unfolding reached_words_by propagate_by partials_by lent_by
else_01_stands pr words none =
    let e = from_read (searching pr) (read_of words) none in (
      ap answer_from e,
      λ run. (
        ap (λ (x : Reaching). pick (not (eqb (length run) 36)) (refused PartialsLength 0) (partials_from x run)) e,
        ap (λ (x : Reaching). pick (not (eqb (length run) 36)) run (lent_from x run)) e,
      ),
    )
