-- The verdicts put so far are those of the first rows.
use Rattle.std.specs.Prelude.{◌≡◌}
use Rattle.files_check.specs.RowsFile.{with_verdicts}
use Rattle.files_check.proofs.put_verdicts.Given as goal

abbrev pub invariant-loop-k : goal.invariant-loop-k
invariant-loop-k l = l.verdicts ≡ with_verdicts l.file l.k l.initial.verdicts
