-- Column after column, no fault in those passed before the word found.
use Rattle.std.specs.Prelude.{map, length}
use Rattle.files_formats.specs.Kinds.{table_fault}
use Rattle.files_formats.specs.Elements.{kinds_of}
use Rattle.files_formats.proofs.FirstLaws.{Upto}
use Rattle.files_formats.proofs.firsts.first_fault.Given as goal

abbrev pub invariant-loop-column : goal.invariant-loop-column
invariant-loop-column g l = Upto (table_fault (kinds_of l.edition l.section) l.below (map g.W.Word.number l.words)) l.w (length l.words) l.column l.found
