-- The search of document 01 keeps its promise, with any proposal: the general theorems at its trial points.
use Prim.Native.Nat.{ℕ, ◌+◌}
use mathlib.Core.Path.{◌≡◌, refl, ap, sym, ◌∙◌, subst}
use mathlib.Core.Bool.{Bool, true, false}
use mathlib.Core.List.{List}
use mathlib.Core.Logic.{⊎_elim, ◌↔◌}
use native.Mathlib.Omega.{arith}
use lib.ListN.{length}
use lib.Ieee.{Float, neg, eq}
use Rattle.bits.specs.declared.refusal.Refusal.TheVariants as reason
use Rattle.bits.specs.Choice.{pick}
use Rattle.bits.specs.Arithmetic.{n0}
use Rattle.bits.specs.Words.{place_of}
use Rattle.series.specs.declared.figures.Anomaly.{Anomaly}
use Rattle.series.specs.declared.figures.Seconds.{Seconds}
use Rattle.search_points.specs.declared.figures.Initial.{Initial}
use Rattle.search_points.specs.Trial.{anomaly_at, trial_at}
use Rattle.search_points.proofs.SortLaws.{sorts_mean}
use Rattle.search_rule.specs.Rule.{Point, Trials, Proposal, Ending, between, exact, unreadable, all_short, ending_of, next_of, counted}
use Rattle.search_rule.specs.declared.pair.Next.{Next}
use Rattle.search_rule.specs.declared.pair.Next.TheVariants.{Between, Exact, Unreadable, AllShort}
use Rattle.search_rule.specs.Nearer.{Choosing, short_end}
use Rattle.search_rule.specs.RulePromise.{Sorts, IsFound, IsAnswer, IsAnomaly, Findable, AllOutwardShort, SomeUnreadable, LastUnreadable}
use Rattle.search_rule.proofs.Counts.{counted_is}
use Rattle.search_rule.proofs.Rounds.{points_sharp}
use Rattle.search_rule.proofs.Reach.{finds, found_answers}
use Rattle.search_rule.proofs.Refusals.{all_short_lem, all_short_points, some_unreadable, last_some, unreadable_last, ends_so}
use Rattle.search_proposals.specs.Proposals.{three_proposals}
use Rattle.search.specs.Search.{Finding, found_with, refused_with, history_by, finding_by, finding_of, search_choosing, search_by, search_of}
use Rattle.search.specs.SearchPromise.{used_in, tried_by, tried_at, Says, Searched, Promise, Demand3, SameButAnomaly, PointsStay}

-- "Place 0 has R = −τ here"; "A place at or above 2047·2^52 is unreadable."
pub sorts_at : (i : Initial) (tau : Seconds) → Sorts (trial_at i tau) (neg tau.0)
sorts_at i tau =
    record { zero_short = (sorts_mean i tau 0).is_short_at_zero refl; top_unreadable = λ p l. (sorts_mean i tau p).is_unreadable_by_psi (omega arith) }

-- ---- What is found at an ending with n points.
module _ (tau : Seconds) (n : ℕ) where
  abbrev finding_at : Ending → Finding
  finding_at e = finding_of tau (next_of n e)

  used_at : (e : Ending) → used_in (finding_at e) ≡ n
  used_at (between s) = refl
  used_at (exact p) = refl
  used_at unreadable = refl
  used_at all_short = refl

  finding_answers : (e : Ending) (p : ℕ) → IsAnswer e p → finding_at e ≡ found_with (anomaly_at tau p) n
  finding_answers (between s) p x = rw x
  finding_answers (exact q) p x = rw x
  finding_answers unreadable p x = absurd x
  finding_answers all_short p x = absurd x

  module _ (i : Initial) where
    found_at : (e : Ending) → IsFound (trial_at i tau) e → (p : ℕ) × (finding_at e ≡ found_with (anomaly_at tau p) n) × IsAnomaly (trial_at i tau) p
    found_at e x = let a = found_answers (trial_at i tau) e x in (a.0, finding_answers e a.0 a.1, a.2)

-- ---- What is found after the history at these points, with any proposal.
module _ (pr : Proposal) (i : Initial) (tau : Seconds) (first : ℕ) where
  abbrev ev : Trials
  ev = trial_at i tau

  abbrev error : Float
  error = neg tau.0

  abbrev ending : Ending
  ending = ending_of (history_by pr i tau first)

  abbrev count : ℕ
  count = length (tried_by pr i tau first)

  abbrev given : Finding
  given = finding_at tau count ending

  given_says : Says pr i tau first given
  given_says =
      ⊎_elim
      (λ f. let x = found_at tau count i ending f in rw x.1 (x.0, refl, x.2))
      (⊎_elim (λ e. rw e (unreadable_last ev pr first error e)) (λ e. rw e ((all_short_lem ev pr first error).0 e)))
      (ends_so ev pr first error (sorts_at i tau))

  given_finds : Findable ev first → (psi : Anomaly) × (given ≡ found_with psi (used_in given))
  given_finds f =
      let x = found_at tau count i ending (finds ev pr first error (sorts_at i tau) f) in
      (anomaly_at tau x.0, rw (used_at tau count ending) x.1)

  given_searched : Searched pr i tau first given
  given_searched =
      record {
        says = given_says;
        finds = given_finds;
        all_short_lem = λ h. rw ((all_short_lem ev pr first error).1 h, all_short_points ev pr first error h);
        unreadable = λ u. rw (used_at tau count ending, (some_unreadable ev pr first error).1 u);
        counts = used_at tau count ending;
        at_most = rw (used_at tau count ending) (points_sharp ev first error pr);
      }

  searched : Searched pr i tau first (finding_of tau (counted 0 (history_by pr i tau first)))
  searched =
      let e : 0 + count ≡ count = omega arith in
      rw (counted_is 0 (history_by pr i tau first), e) given_searched

-- The search keeps its promise, whatever formula proposes the inner points; and so with document 01's.
pub promise_by : (pr : Proposal) (i : Initial) (tau : Seconds) (h : Anomaly) → Promise pr i tau h (search_by pr i tau h)
unfolding search_choosing
promise_by pr i tau h = record { no_interval = λ e. rw e; interval = λ e. rw e (searched pr i tau (place_of h.0)) }

pub promise : (i : Initial) (tau : Seconds) (h : Anomaly) → Promise (three_proposals i tau) i tau h (search_of i tau h)
promise i tau h = promise_by (three_proposals i tau) i tau h

-- ---- Demand 3, of the search, whatever formula proposes the inner points.
module _ (pr : Proposal) (i : Initial) (tau : Seconds) (h : Anomaly) (interval : eq tau.0 n0 ≡ false) where
  pub demand3_by : Findable (trial_at i tau) (place_of h.0) → Demand3 pr i tau h (search_by pr i tau h)
  demand3_by f =
      let kept = (promise_by pr i tau h).interval interval in
      let x = kept.finds f in
      let y = subst (Says pr i tau (place_of h.0)) x.1 kept.says in
      let n = used_in (search_by pr i tau h) in
      record {
        place = y.0;
        points = n;
        found = x.1 ∙ ap (λ (psi : Anomaly). found_with psi n) y.1;
        anomaly = y.2;
        used = kept.counts;
        at_most = omega (arith, kept.at_most);
        sharper = kept.at_most;
      }

-- ---- The promise once more, of document 01's search itself, where tau isn't zero.
module _ (i : Initial) (tau : Seconds) (h : Anomaly) (interval : eq tau.0 n0 ≡ false) where
  abbrev points : List Point
  points = tried_at i tau (place_of h.0)

  kept : Searched (three_proposals i tau) i tau (place_of h.0) (search_of i tau h)
  kept = (promise i tau h).interval interval

  pub demand3 : Findable (trial_at i tau) (place_of h.0) → Demand3 (three_proposals i tau) i tau h (search_of i tau h)
  demand3 = demand3_by (three_proposals i tau) i tau h interval

  -- Refusal 5, with 41 points.
  pub refusal5 : ((n : ℕ) × (search_of i tau h ≡ refused_with reason.AllShort n)) ↔ AllOutwardShort (trial_at i tau) (place_of h.0)
  refusal5 = (λ x. rw x.1 at kept.says, λ a. (41, kept.all_short_lem a))

  pub refusal5_points : (n : ℕ) → search_of i tau h ≡ refused_with reason.AllShort n → n ≡ 41
  refusal5_points n e = ap used_in (sym e ∙ kept.all_short_lem (refusal5.0 (n, e)))

  -- Refusal 6, with the points used so far, of which the last is the unreadable one.
  pub refusal6 : ((n : ℕ) × (search_of i tau h ≡ refused_with reason.Unreadable n)) ↔ SomeUnreadable points
  refusal6 = (λ x. last_some (rw x.1 at kept.says), λ u. (used_in (search_of i tau h), kept.unreadable u))

  pub refusal6_points : (n : ℕ) → search_of i tau h ≡ refused_with reason.Unreadable n → (n ≡ length points) × LastUnreadable points
  refusal6_points n e = (rw e at kept.counts, rw e at kept.says)

-- ---- The choice between the ends touches ψ alone.
module _ (choose : Choosing) (tau : Seconds) where
  finding_stays : (next : Next) → SameButAnomaly (finding_by short_end tau next) (finding_by choose tau next)
  finding_stays (Between s n) = refl
  finding_stays (Exact p n) = refl
  finding_stays (Unreadable n) = refl
  finding_stays (AllShort n) = refl

  picked_stays : (t : Bool) (a : Finding) (next : Next) →
      SameButAnomaly a a → SameButAnomaly (pick t a (finding_by short_end tau next)) (pick t a (finding_by choose tau next))
  picked_stays true a next s = s
  picked_stays false a next s = finding_stays next

pub points_stay : PointsStay
unfolding search_choosing
points_stay choose pr i tau h =
    picked_stays choose tau (eq tau.0 n0) (found_with (record { 0 = n0 }) 0) (counted 0 (history_by pr i tau (place_of h.0))) refl
