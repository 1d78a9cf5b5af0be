use Rattle.std.proofs.Common.{arith}
use Rattle.files_check.specs.RowsFile.{verdict_at}
use Rattle.files_check.proofs.EachLaws.{start, next}
use Rattle.files_check.proofs.put_verdicts.Goals as goal

pub loop-k-init : goal.loop-k-init
loop-k-init c = start (verdict_at c.args.file.now) c.args.verdicts.now

pub verdict_at-requires : goal.verdict_at-requires
verdict_at-requires c = omega (arith, c.requires.0, c.loop-k-test.true)

pub loop-k-preserved : goal.loop-k-preserved
loop-k-preserved c =
    let a = c.args in
    next (verdict_at a.file.now) a.verdicts.now c.loop-k.k (omega (arith, c.requires.1, c.loop-k-test.true)) c.loop-k.invariant c.verdict_at.ensures
