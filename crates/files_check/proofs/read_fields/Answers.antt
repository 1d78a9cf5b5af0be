use Rattle.std.specs.Prelude.{◌*◌, ◌≡◌, length}
use Rattle.std.proofs.Common.{arith}
use mathlib.Core.List.{append-nil}
use lib.ListN.{drop_of_length-le}
use Rattle.files_check.specs.RowsFile.{fields_at}
use Rattle.files_check.proofs.EachLaws.{start, next}
use Rattle.files_check.proofs.read_fields.Invariants.{from}
use Rattle.files_check.proofs.read_fields.Goals as goal

pub loop-j-init : goal.loop-j-init
loop-j-init c = start _ _

pub loop-j-preserved : goal.loop-j-preserved
loop-j-preserved c = next (from c.args.row.now c.args.column) c.args.words.now c.loop-j.j (omega arith) c.loop-j.invariant c.word_at.ensures

pub returns : goal.returns
returns c =
    let a = c.args in
    let n = length a.words.now in
    let e : c.loop-j.j ≡ n = omega arith in
    rw (c.loop-j.invariant, e, drop_of_length-le a.words.now {i = n} (omega arith), append-nil (fields_at a.row.now (8 * a.column) n))
