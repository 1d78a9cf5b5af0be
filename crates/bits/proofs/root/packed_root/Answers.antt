-- The law `packed` of Nearest.antt, at the digits that `root_digits` ensures.
use Rattle.bits.proofs.Nearest.{packed}
use Rattle.bits.proofs.root.packed_root.Goals as goal

pub returns : goal.returns
returns c =
    let n = c.args.number in
    packed _ _ _ n.has_53_digits.0 n.has_53_digits.1 n.in_range c.root_digits-q.ensures.0 c.root_digits-q.ensures.1
