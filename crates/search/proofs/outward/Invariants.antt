-- What is left of the outward history, from here, ends as all of it does from the first place.
use Prim.Native.Nat.{◌+◌, ◌-◌, ◌*◌, ◌^◌}
use mathlib.Core.Path.{◌≡◌}
use Rattle.search_points.specs.Trial.{trial_at}
use Rattle.search_rule.specs.Rule.{outward, counted}
use Rattle.search.specs.Search.{outward_at}
use Rattle.search.proofs.outward.Given as goal

abbrev pub invariant-loop-k : goal.invariant-loop-k
invariant-loop-k l =
    counted l.k (outward (trial_at l.passage.initial l.passage.tau) (41 - l.k) (l.first + l.k * 2 ^ 52) l.short)
    ≡ counted 0 (outward_at l.passage.initial l.passage.tau l.first)
