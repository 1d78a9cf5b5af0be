-- The rows put so far are those of the first requests.
use Rattle.std.specs.Prelude.{◌≡◌}
use Rattle.files_results.specs.Results.{with_rows}
use Rattle.files_results.proofs.put_rows.Given as goal

abbrev pub invariant-loop-k : goal.invariant-loop-k
invariant-loop-k l = l.room ≡ with_rows l.file.bytes.now l.file.shape l.k l.initial.room
