-- A turn of the history is a turn of the loop: the first of its places that are left is tried.
use Prim.Native.Nat.{◌+◌, ◌-◌, ◌*◌, ◌^◌}
use mathlib.Core.Path.{◌≡◌, sym, ap, ◌∙◌}
use native.Mathlib.Omega.{arith}
use Rattle.search_points.specs.Trial.{trial_at}
use Rattle.search_rule.specs.declared.pair.Next.TheVariants.{AllShort}
use Rattle.search_rule.specs.Rule.{outward, outward_step}
use Rattle.search_rule.proofs.Turns.{outward_turn, outward_none, stops, goes_on}
use Rattle.search.proofs.outward.Goals as goal

pub returns-in-Break : goal.returns-in-Break
returns-in-Break c =
    let l = c.loop-k in
    let ev = trial_at c.args.passage.initial c.args.passage.tau in
    let place = c.args.first + l.k * 2 ^ 52 in
    stops (l.k + 1) (outward_step l.short place (ev place)) (outward ev (41 - l.k - 1) (place + 2 ^ 52))
    (sym (simp c.try_at.ensures at c.step_by-step.ensures) ∙ c.in-Break.is)
    ∙ sym (outward_turn ev (41 - l.k) l.k place l.short (omega arith))
    ∙ l.invariant

pub loop-k-preserved : goal.loop-k-preserved
loop-k-preserved c =
    let l = c.loop-k in
    let ev = trial_at c.args.passage.initial c.args.passage.tau in
    let place = c.args.first + l.k * 2 ^ 52 in
    let left : 41 - l.k - 1 ≡ 41 - (l.k + 1) = omega arith in
    let further : place + 2 ^ 52 ≡ c.args.first + (l.k + 1) * 2 ^ 52 = omega arith in
    rw (← left, ← further)
    (sym (goes_on (l.k + 1) (outward_step l.short place (ev place)) (outward ev (41 - l.k - 1) (place + 2 ^ 52))
    (sym (simp c.try_at.ensures at c.step_by-step.ensures) ∙ c.in-Continue.is))
    ∙ sym (outward_turn ev (41 - l.k) l.k place l.short (omega arith))
    ∙ l.invariant)

pub returns : goal.returns
returns c = ap AllShort (omega arith) ∙ outward_none _ (41 - c.loop-k.k) c.loop-k.k _ _ (omega arith) ∙ c.loop-k.invariant
