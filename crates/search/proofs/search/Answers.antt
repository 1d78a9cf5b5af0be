-- The outward history, then the inward one where it left a pair, is the whole one.
use Prim.Native.Nat.{ℕ}
use mathlib.Core.Path.{◌≡◌, sym, ap, ◌∙◌}
use mathlib.Core.Bool.{false}
use mathlib.Core.List.{[]}
use native.Mathlib.Omega.{arith}
use lib.Ieee.{neg, eq}
use Rattle.bits.specs.Arithmetic.{n0}
use Rattle.bits.specs.Words.{place_of}
use Rattle.series.specs.declared.figures.Anomaly.{Anomaly}
use Rattle.series.specs.declared.figures.Seconds.{Seconds}
use Rattle.search_points.specs.declared.figures.Initial.{Initial}
use Rattle.search_rule.specs.declared.pair.Next.{Next}
use Rattle.search_points.specs.Trial.{trial_at}
use Rattle.search_proposals.specs.Proposals.{proposed, three_proposals}
use Rattle.search_rule.specs.Rule.{end_at, inward, history, counted}
use Rattle.search.specs.Search.{outward_at, inward_at, history_at, finding_of, search_choosing, search_of}
use Rattle.search_rule.proofs.Counts.{outward_points}
use Rattle.search_rule.proofs.Turns.{after, followed, between_used, handed_on, inward_same}
use Rattle.search.proofs.search.Goals as goal

whole : (i : Initial) (tau : Seconds) (h : Anomaly) {p : ℕ} {x : Next} → p ≡ place_of h.0 → x ≡ counted 0 (outward_at i tau p)
    → after x (inward_at i tau) ≡ counted 0 (history_at i tau (place_of h.0))
unfolding history
whole i tau h e o =
    followed 0 [] (outward_at i tau (place_of h.0)) (inward (trial_at i tau) (three_proposals i tau) 63 0) (inward_at i tau)
    (inward_same (trial_at i tau) (proposed i tau) 63 0)
    (o ∙ ap (λ (q : ℕ). counted 0 (outward_at i tau q)) e)

of_interval : (i : Initial) (tau : Seconds) (h : Anomaly) → eq tau.0 n0 ≡ false
    → finding_of tau (counted 0 (history_at i tau (place_of h.0))) ≡ search_of i tau h
unfolding search_choosing
of_interval i tau h e = sym (rw e)

pub returns-then-tau : goal.returns-then-tau
unfolding search_choosing
returns-then-tau c = simp c.if-tau.true

pub inward-requires : goal.inward-requires
inward-requires c =
    let a = c.args in
    let o = c in
    omega (
      arith,
      between_used _ _ _ o.outward-next.ensures c.in-Between.is,
      outward_points (trial_at a.initial a.tau) 41 o.place.result (end_at 0 (neg a.tau.0)),
    )

pub returns-in-Between : goal.returns-in-Between
returns-in-Between c =
    let a = c.args in
    let o = c in
    c.finding_of.ensures
    ∙ ap (finding_of a.tau)
    (c.inward.ensures
    ∙ ap (λ (y : Next). after y (inward_at a.initial a.tau)) (sym c.in-Between.is)
    ∙ whole a.initial a.tau a.h o.place.ensures o.outward-next.ensures)
    ∙ of_interval a.initial a.tau a.h o.if-tau.false

pub returns-in_default : goal.returns-in_default
returns-in_default c =
    let a = c.args in
    c.finding_of-in_default.ensures
    ∙ ap (finding_of a.tau)
    (handed_on c.outward-next.result (inward_at a.initial a.tau) c.in_default.not-Between
    ∙ whole a.initial a.tau a.h c.place.ensures c.outward-next.ensures)
    ∙ of_interval a.initial a.tau a.h c.if-tau.false
