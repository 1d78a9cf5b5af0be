-- What is left lies within the run. Each turn moves a byte or uses up patience.
use Rattle.std.proofs.Common.{◌≡◌, ◌+◌, ◌≤◌}
use Rattle.streams.proofs.calls.move_whole.Given as goal

abbrev pub invariant-loop-left : goal.invariant-loop-left
invariant-loop-left g l = (l.left.bytes ≤ l.size) × (g.M.Mover.size l.mover ≡ l.size)

abbrev pub decreases-loop-left : goal.decreases-loop-left
decreases-loop-left g l = l.left.bytes + l.left.patience
