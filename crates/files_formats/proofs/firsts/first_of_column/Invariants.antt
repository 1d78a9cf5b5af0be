-- Along the column, no fault before the word reached.
use Prim.Native.Nat.{◌-◌}
use Rattle.std.specs.Prelude.{map}
use Rattle.files_formats.specs.Kinds.{kind_fault}
use Rattle.files_formats.proofs.FirstLaws.{Passed}
use Rattle.files_formats.proofs.firsts.first_of_column.Given as goal

abbrev pub invariant-loop-k : goal.invariant-loop-k
invariant-loop-k g l = Passed (kind_fault l.kind l.below l.w (map g.W.Word.number l.words)) l.w l.column l.k

abbrev pub decreases-loop-k : goal.decreases-loop-k
decreases-loop-k g l = l.bound - l.k
