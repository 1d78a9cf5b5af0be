-- The refused arms are plain; a root is `packed_root`'s, at the digits of a subnormal or of a normal double.
use borrow.Author.Rules.{rules}
use Rattle.bits.proofs.Answers.{subnormal, normal}
use Rattle.bits.proofs.root.root_of.Goals as goal

pub returns-else-word-ge-SIGN : goal.returns-else-word-ge-SIGN
returns-else-word-ge-SIGN c = subnormal _ _ (search rules) (search rules) (search rules) _ _ c.normalised.ensures c.packed_root.ensures

pub returns-else-word-ge-SIGN-2 : goal.returns-else-word-ge-SIGN-2
returns-else-word-ge-SIGN-2 c = normal _ _ (search rules) (search rules) (search rules) c.packed_root-in-1-to-2046.ensures
