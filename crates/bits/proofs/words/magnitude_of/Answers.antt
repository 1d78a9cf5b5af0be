-- The library's word for it is the definition.
use mathlib.Core.Path.{◌≡◌, refl}
use mathlib.Core.Bool.{false}
use lib.Ieee.{Float, nan, inf, fin}
use Rattle.std.proofs.Common.{rules}
use Rattle.std.specs.Float.{float_with_sign}
use Rattle.bits.specs.Arithmetic.{magnitude}
use Rattle.bits.proofs.words.magnitude_of.Goals as goal

same : (x : Float) → float_with_sign false x ≡ magnitude x
unfolding float_with_sign
same nan = refl
same (inf s) = refl
same (fin s m e) = refl

pub returns : goal.returns
returns c = search (rules, same c.args.x)
