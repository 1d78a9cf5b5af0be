-- A round of the loop is a round of the history.
use Prim.Native.Nat.{◌+◌, ◌-◌}
use mathlib.Core.Path.{◌≡◌, refl, ap, sym, ◌∙◌}
use mathlib.Core.List.{[]}
use native.Mathlib.Omega.{arith}
use Rattle.search_points.specs.Trial.{trial_at}
use Rattle.search_rule.specs.declared.pair.Next.{Next}
use Rattle.search_rule.proofs.Counts.{round_points}
use Rattle.search_rule.proofs.Turns.{rest, after, handed_on, between_used, inward_turn, inward_narrow, inward_none}
use Rattle.search_proposals.specs.Proposals.{proposed, three_proposals}
use Rattle.search.proofs.inward.Goals as goal

pub loop-init : goal.loop-init
loop-init c = (refl, omega arith)

pub returns-then-not-is_wide : goal.returns-then-not-is_wide
returns-then-not-is_wide c =
    let p = c.args.passage in
    let l = c.loop in
    inward_narrow (trial_at p.initial p.tau) (proposed p.initial p.tau) (63 - l.counter) l.points l.pair (sym c.is_wide.ensures ∙ c.if-not-is_wide.true)
    ∙ l.invariant.0

pub round-next-requires : goal.round-next-requires
round-next-requires c = omega (arith, c.loop.invariant.1)

pub returns-in_default : goal.returns-in_default
returns-in_default c =
    let p = c.args.passage in
    let l = c.loop in
    let left = 63 - l.counter in
    let f = rest (trial_at p.initial p.tau) (proposed p.initial p.tau) (left - 1) in
    handed_on c.round-next.result f c.in_default.not-Between
    ∙ ap (λ (y : Next). after y f) c.round-next.ensures
    ∙ sym (inward_turn (trial_at p.initial p.tau) (proposed p.initial p.tau) left l.points l.pair (omega arith) (sym c.is_wide.ensures ∙ c.if-not-is_wide.false))
    ∙ l.invariant.0

pub loop-preserved : goal.loop-preserved
loop-preserved c =
    let p = c.args.passage in
    let l = c.loop in
    let ev = trial_at p.initial p.tau in
    let left = 63 - l.counter in
    let f = rest ev (proposed p.initial p.tau) (left - 1) in
    let e : 63 - (l.counter + 1) ≡ left - 1 = omega arith in
    let used = between_used _ _ _ c.round-next.ensures c.in-Between.is in (
      rw e (ap (λ (y : Next). after y f) (sym c.in-Between.is ∙ c.round-next.ensures)
          ∙ sym (inward_turn ev (proposed p.initial p.tau) left l.points l.pair (omega arith) (sym c.is_wide.ensures ∙ c.if-not-is_wide.false))
          ∙ l.invariant.0),
      omega (arith, l.invariant.1, used, round_points ev (three_proposals p.initial p.tau) 0 [] l.pair),
    )

pub returns : goal.returns
returns c =
    let p = c.args.passage in
    let l = c.loop in
    inward_none (trial_at p.initial p.tau) (proposed p.initial p.tau) (63 - l.counter) l.points l.pair (omega arith) ∙ l.invariant.0
