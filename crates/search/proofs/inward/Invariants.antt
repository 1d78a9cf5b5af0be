-- The rounds that are left, from the pair as it is now, end as all of them do from the first pair; a round takes at most two points.
use Prim.Native.Nat.{◌+◌, ◌-◌, ◌*◌, ◌≤◌}
use mathlib.Core.Path.{◌≡◌}
use Rattle.search_points.specs.Trial.{trial_at}
use Rattle.search_rule.specs.Rule.{counted}
use Rattle.search_rule.proofs.Turns.{rest}
use Rattle.search_proposals.specs.Proposals.{proposed}
use Rattle.search.specs.Search.{inward_at}
use Rattle.search.proofs.inward.Given as goal

abbrev pub invariant-loop : goal.invariant-loop
invariant-loop l =
    (counted l.points (rest (trial_at l.passage.initial l.passage.tau) (proposed l.passage.initial l.passage.tau) (63 - l.counter) l.pair)
    ≡ counted l.fn.used (inward_at l.passage.initial l.passage.tau l.fn.start))
    × (l.points + 2 * (63 - l.counter) ≤ 226)
