use Rattle.std.proofs.Common.{rules}
use Rattle.bits.proofs.RunLaws.{same_pointwise}
use Rattle.bits.proofs.runs.are_same.Goals as goal

pub returns : goal.returns
returns c = search (rules, same_pointwise c.args.one.now c.args.other.now)
